-- The public entries: what each answers, for all words it can be lent. A line of comment for each file.

-- ---- definitions
-- Prints: what the printing of a kernel program answers, and what it leaves in the page.
pub mod Prints
