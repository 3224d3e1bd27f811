-- What the proofs of the code share. A line of comment for each file.
-- Results: operations on words as the code computes them.
pub mod Results
-- Laws: results of operations are words; elements that the bounds test lets through.
pub mod Laws
