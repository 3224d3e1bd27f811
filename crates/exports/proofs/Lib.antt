-- What the proofs of the functions share. A line of comment for each file.
-- Sizes: the numbers of sizes are those of each entry that gives them.
pub mod Sizes
