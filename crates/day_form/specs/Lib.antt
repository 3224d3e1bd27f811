-- A day's input. A line of comment for each file.

-- ---- definitions
-- Input: the parts of the input, as bytes and lines.
pub mod Input
-- Lines: the numbers of a line, and the first line that a test turns away.
pub mod Lines
-- Settings: the variable that is set, and its values.
pub mod Settings
-- Plans: the setting and the day lines behind a rule, or why they are turned away.
pub mod Plans
