-- Laws that the proofs of functions share. A line of comment for each file.
-- ToldLaws: what is told, by the check's answer.
pub mod ToldLaws
