-- A day's runs. A line of comment for each file.

-- ---- definitions
-- Days: what a line and a list of lines do.
pub mod Days
-- Conditions: what the functions are lent and leave.
pub mod Conditions
