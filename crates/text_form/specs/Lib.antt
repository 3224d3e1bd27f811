-- The text form: the grammar of texts, and what reader and writer give. A line of comment for each file.

-- ---- definitions
-- Texts: a header's line and the rows' lines.
pub mod Text
-- Answers: what reader and writer return and leave, refusals included.
pub mod Answers
-- Reader: what the reader's inner functions answer.
pub mod Reader
-- Writer: what the writer's inner functions ask of a buffer.
pub mod Writer
-- Passing: a header and rows that no limit turns away.
pub mod Passing
