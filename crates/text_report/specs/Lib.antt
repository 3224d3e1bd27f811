-- Output lines, as bytes. A line of comment for each file.

-- ---- definitions
-- Lines: the lines that the trial program prints.
pub mod Lines
