-- The tables from which the flat list is written. A line of comment for each file.

-- ---- definitions
-- Tables: the table of sizes, that of lines and that of labels, filled as far as a row.
pub mod Tables
-- ---- laws
-- Sizes: the lines of a statement, by its kind, from the sizes of its links.
pub mod Sizes
-- Places: lines handed along the links.
pub mod Places
-- Numbers: the sizes and places of an if and a while, as the code works them out.
pub mod Numbers
