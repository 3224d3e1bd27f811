-- The proofs of the day program: laws that several functions use, then a folder for each function.
-- Printed: what is printed for a rule and for the plan behind it.
pub mod Printed
