-- The proofs of the output lines: laws that several functions use, then a folder for each function.
-- Copying: bytes copied one by one.
pub mod Copying
-- Spacing: fields with their blanks, one after the other in a buffer.
pub mod Spacing
