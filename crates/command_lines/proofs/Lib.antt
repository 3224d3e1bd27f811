-- The proofs of the lines: laws that several functions use, then a folder for each function.
-- Joined: how lines are put together.
pub mod Joined
