-- What the proofs of this crate share. A line of comment for each file.
-- What an expression's code ends with, by its shape.
pub mod Choices
-- Ranks: the measure by which the writers of expressions end.
pub mod Ranks
-- The parts of a branch in the table: its block's row, its expression's code, its end.
pub mod BranchParts
-- The parts of an if with two branches in the table.
pub mod ChoiceParts
-- The parts of an expression in the table: its operands' code, and what it does with their values.
pub mod ExpressionParts
-- The arguments of a call in the table: those behind the first, its code, and the copy of its value.
pub mod ArgumentParts
-- A call in the table: its arguments' code, and the call on what holds them.
pub mod CallParts
