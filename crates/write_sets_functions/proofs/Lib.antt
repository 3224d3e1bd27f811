-- What the proofs of this crate share. A line of comment for each file.
-- What a function can write comes from what lower ones can.
pub mod LowerLaws
-- What a statement's own row writes, and the links at which more is written.
pub mod StepLaws
-- The sets of walks.
pub mod WalkLaws
-- The definitions at the front of a program's list, one after the other.
pub mod DefinitionLaws
