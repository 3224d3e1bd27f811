-- Laws of this crate's definitions. A line of comment for each file.
-- Lies: lines that lie in a list from a line on; the parts of an if and of a while.
pub mod Lies
-- Standing: the code of each row stands in the list at the row's line; so do its own lines.
pub mod Standing
-- Written: a list in which every line is written is the flat list.
pub mod Written
-- Filled: where each row's own lines are written, every line is.
pub mod Filled
