-- The rows of a page's lines, from the last line to the first. A line of comment for each file.

-- ---- definitions
-- Rows: the rows that a line has of its own, by what the lines behind it leave.
pub mod Rows
-- Fits: the most names that any header gives.
pub mod Fits
