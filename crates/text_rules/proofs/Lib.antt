-- The proofs of a rule's reader.
-- Within: a text within the limits, what is read of it, and what the check says.
pub mod Within
