-- What the proofs of this crate share. A line of comment for each file.
-- The words of kernel statements, and how many rows they are.
pub mod Words
