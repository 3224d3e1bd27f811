-- Laws of this crate's definitions. A line of comment for each file.
-- A held value: the copy is made or not.
pub mod HeldCode
-- What an atom holds, and where a place lies.
pub mod Held
-- An expression and its code go alike: a rule a kind.
pub mod ExpressionRules
-- A call and its code go alike.
pub mod CallRules
-- Every expression and its code go alike.
pub mod ExpressionPreserves
-- Which labels stand in the code of a tree, and what a jump passes.
pub mod PassedCode
-- A statement and its code go alike: a rule a kind.
pub mod StatementRules
-- Guarded statements and their code go alike.
pub mod GuardedRules
-- Every statement and its code go alike.
pub mod StatementPreserves
-- The functions of a program and of its code: where the temporaries of each begin.
pub mod FunctionCode
-- Every call and the kernel's go alike.
pub mod FunctionPreserves
-- The rows of the code are those that the sizes count.
pub mod TranslateRows
-- The translation preserves runs: demand 3 on trees.
pub mod TranslatePreserves
-- What it is for both runs to make the same writes.
pub mod WritesShown
-- Both runs make the same writes, also where they never end.
pub mod SameWrites
-- No label stands twice.
pub mod TranslateLabels
-- At most 20×n+20 rows, n temporaries, 2×n labels.
pub mod TranslateBounds
-- A translation copies a variable exactly where that is allowed.
pub mod CopyLaws
-- Document 01's program, a switch, both guarded forms, with their translations.
pub mod WorkedExamples
