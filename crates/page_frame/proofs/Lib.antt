-- The proofs of lines in their frame: a law file for the loops, then a folder for each function.
-- Walks: the loops over blanks, from the front and from the end.
pub mod Walks
-- Steps: what each step of reading a framed line comes to.
pub mod Steps
-- Laws of blanks: those that stand first, and those behind the last other byte.
pub mod BlankLaws
-- Laws of frames: what is read as a line are the bytes of that line, and the other way round.
pub mod FrameLaws
-- Complete: the bytes of a printed line are read as it.
pub mod FrameComplete
