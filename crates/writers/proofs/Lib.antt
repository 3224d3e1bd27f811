-- What the proofs of this crate share. A line of comment for each file.
-- Sequence: one part written behind another, with the numbers and flags of the code.
pub mod Sequence
-- Tables: what the table of measures says of statements, lists and arms; the label of a list's default.
pub mod Tables
-- Lists: the items of a list one behind another, and the loops over them.
pub mod ListLaws
-- Arms: the arms of a guarded form one behind another, and the guarded forms around them.
pub mod ArmLaws
-- Loops: the code of a loop and of its parts, one behind another.
pub mod LoopLaws
-- Statements: the code of the other statements, one part behind another.
pub mod StatementLaws
-- Declarations: the code of a declaration, one part behind another.
pub mod DeclarationLaws
-- Returns: the code of a return, one part behind another.
pub mod ReturnLaws
-- Laws of labels: every label has a row.
pub mod LabelLaws
