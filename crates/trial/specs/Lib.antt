-- The trial program. A line of comment for each file.

-- ---- definitions
-- Output: the bytes that it prints for a text.
pub mod Output
-- Conditions: what the functions that make the output are lent.
pub mod Conditions
