-- Cause 7, and the notes along the links. A line of comment for each file.

-- ---- definitions
-- Places: cause 7, "break, continue, case or default out of place".
pub mod Places
-- Passes: the notes that one pass writes for causes 7 and 8.
pub mod Passes
