-- What the writers of a program with functions ask. A line of comment for each file.

-- ---- definitions
-- Asks: what the writers of a program ask of their caller, and what they write.
pub mod Asks
