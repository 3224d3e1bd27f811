-- What the proofs of the functions share. A line of comment for each file.
-- Words of a line, handed on: numbers, values, targets.
pub mod Handed
-- Made: what a line of each kind asks, and what it does next.
pub mod Made
