-- What the proofs of the functions share. A line of comment for each file.
-- Answers: laws of the answers of statements and rounds.
pub mod Answers
-- Enter: lists, told by the steps left.
pub mod Enter
-- Items: the items of a list by the rows that hold them.
pub mod Items
-- Walks: arguments and parameters by the rows that hold them.
pub mod Walks
-- Definitions: the definitions of row 0's list in turn.
pub mod Definitions
