-- What the proofs of the functions share. A line of comment for each file.
-- What the proofs of the functions share. A line of comment for each file.
-- Decoding: answers as the code handles them: words cast to 64 bits, numbers handed on, stops.
pub mod Decoding
-- Enter: steps and sequence, told by the steps left.
pub mod Enter
-- Rows: what follows the entry of a row of a sound table, by its kind.
pub mod Rows
-- Operands: what a call's answer says of the run that asked for it, and what a call asks.
pub mod Operands
-- Bounds: where an array lies, read off the list.
pub mod Bounds
-- Positions that a place's answer gives lie in the store.
pub mod Positions
