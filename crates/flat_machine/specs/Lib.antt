-- The machine of flat lists. A line of comment for each file.

-- ---- definitions
-- Whole: what the run of a list asks.
pub mod Whole
