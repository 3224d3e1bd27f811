-- What the proofs of functions share.
-- Pieces: the walk over the fields of a line and over the lines of a text.
pub mod Pieces
-- Storing: the walk over the fields, which stores the numbers.
pub mod Storing
-- Writing: a line put into a buffer.
pub mod Writing
-- Sizing: how many bytes words take.
pub mod Sizing
