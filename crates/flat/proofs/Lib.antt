-- What the proofs of the functions share. A line of comment for each file.
-- Distances: a signed distance as the code takes it apart.
pub mod Distances
-- Laws of words: what is written is read back.
pub mod WordsLaws
-- Accepts: the check accepts the legal lists and no others.
pub mod Accepts
