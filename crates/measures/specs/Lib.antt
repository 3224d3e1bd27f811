-- The measures of statements, lists and programs. A line of comment for each file.

-- ---- definitions
-- Programs: what the functions that measure a program give.
pub mod Programs
