-- What the run of a program answers and asks. A line of comment for each file.

-- ---- definitions
-- Whole: the run of a program.
pub mod Whole
