-- What the proofs of the functions share. A line of comment for each file.
-- LoopLaws: loops, told by the steps left.
pub mod LoopLaws
-- Rows: what follows the entry of a row of a sound table, by its kind.
pub mod Rows
-- Choices: the arms of a guarded statement by the rows that hold them.
pub mod Choices
-- Bindings: the arguments of a call in turn, and then the parameters.
pub mod Bindings
-- KindNumbers: the numbers of kinds that a match on them has passed.
pub mod KindNumbers
