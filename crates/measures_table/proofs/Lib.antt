-- What the proofs of this crate share. A line of comment for each file.
-- A table with the words of one row put in.
pub mod RowWords
-- The stores of a row's measures.
pub mod Stores
