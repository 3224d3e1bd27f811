-- What is printed for a text. A line of comment for each file.
-- Texts: what is printed for a text, in tables and a buffer of these sizes.
pub mod Texts
-- Read: what came of reading a text, by what is then printed for it.
pub mod Read
