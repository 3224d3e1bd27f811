-- The flat list. A line of comment for each file.

-- ---- definitions
-- Lines: what a line does, and the run of lines.
pub mod Lines
-- Words: the five words of a line, and the lines of a list of words.
pub mod Words
-- Refusal: what the list's own check answers.
pub mod Refusal
-- Legal: the lists that the machine takes.
pub mod Legal
-- Results: the run of a list, and what a flat run answers.
pub mod Results
-- Line kinds: the numbers of the table, one by one.
pub mod LineKinds
