-- Write sets. A line of comment for each file.
-- Bits of a number.
pub mod Bits
-- The words that names mean.
pub mod Named
-- Sets of variables, of declared words and of arrays, as words.
pub mod Sets
-- How many variables and declared words a set has.
pub mod Counts
-- Laws of sets.
pub mod SetLaws
