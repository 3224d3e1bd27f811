-- Laws that the proofs of functions share. A line of comment for each file.
-- NumberLaws: the numbers so far, in a buffer.
pub mod NumberLaws
