-- The proofs of a preview's lines: laws that several functions use, then a folder for each function.
-- Changed: the lines of a preview, one place after the other.
pub mod Changed
