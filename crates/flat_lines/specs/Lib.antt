-- What the writer of lines leaves. A line of comment for each file.

-- ---- definitions
-- Lent: the tables and the list that the writer is lent, where a row stands, and which rows' lines are written.
pub mod Lent
-- ---- laws
-- Stored: five words stored are a line put; distances as the code works them out.
pub mod Stored
-- Values: what may be assigned to a variable, by the number of its kind.
pub mod Values
-- Puts: the own lines of an if and of a while, put one after the other.
pub mod Puts
-- Rows: what a row's own lines are, by the number of its kind.
pub mod Rows
-- Whole: where the own lines of all rows are written, the list is the flat list.
pub mod Whole
