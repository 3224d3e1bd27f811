-- What the proofs of this crate share. A line of comment for each file.
-- What the functions read at a row of a source.
pub mod Reading
