-- The proofs of the pass over a page: laws of its loop, then a folder for each function.
-- Scanning: what is known of a page when so many of its lines are done.
pub mod Scanning
