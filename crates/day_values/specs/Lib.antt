-- A day for each value. A line of comment for each file.

-- ---- definitions
-- Values: the day of one value and its line, and the lines of all values.
pub mod Values
-- Conditions: what the functions are lent.
pub mod Conditions
