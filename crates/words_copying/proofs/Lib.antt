-- What the proof of this crate uses. A line of comment for each file.
-- A copy of words from the start of a table.
pub mod Copies
