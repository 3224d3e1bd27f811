-- The proofs of the trial program: laws that several functions use, then a folder for each function.
-- Rules: a rule that was read and checked, and what is printed for it.
pub mod Rules
-- Started: runs that start from zeros.
pub mod Started
-- Translated: the kernel form of a program within the limits.
pub mod Translated
