-- The proofs of a day for each value: laws that several functions use, then a folder for each function.
-- Printing: the numbers of a value's line, and that it has room.
pub mod Printing
-- Walk: the walk over the values.
pub mod Walk
