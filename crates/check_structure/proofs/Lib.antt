-- What the proofs of the code share. A line of comment for each file.
-- Marks: one mark more, and what all marks say.
pub mod Marks
-- The walk for depth: how what a part gives goes into what the whole gives.
pub mod Walk
