-- The proofs of the reader of atoms: laws that several functions use, then a folder for each function.
-- Comparing: what comparing bytes one by one says of them.
pub mod Comparing
-- Mapped: what `map` gives.
pub mod Mapped
