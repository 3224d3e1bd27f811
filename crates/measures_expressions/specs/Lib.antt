-- The measures of expressions. A line of comment for each file.

-- ---- definitions
-- Passed: what the functions that measure a call and its arguments ask and give.
pub mod Passed
