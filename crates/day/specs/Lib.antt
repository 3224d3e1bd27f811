-- The day program. A line of comment for each file.

-- ---- definitions
-- Output: the bytes that it prints for an input.
pub mod Output
