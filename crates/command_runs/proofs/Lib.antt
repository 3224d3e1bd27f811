-- Laws that several functions use, then a folder for each function.
-- Starts: what a run or a preview starts from, and that its line has room.
pub mod Starts
-- Shown: the lines of a preview have room.
pub mod Shown
