-- What the proofs of this crate share. A line of comment for each file.
-- What an expression's own row brings, kind by kind.
pub mod OwnLaws
-- What holds a value.
pub mod HolderLaws
-- An expression's measures, from its own row's and its operands'.
pub mod ExpressionLaws
-- The measures of a call and of its arguments.
pub mod PassedLaws
