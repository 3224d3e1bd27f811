-- The proofs of the rows of lines: what each part of a line comes to, then a folder for each function.
-- Steps: what each part of a line comes to.
pub mod Steps
-- Rows of what lines are read as, with a statement's line before them, and the line of a call or of a definition.
pub mod ReadRows
pub mod FunctionRows
-- Laws of rows: the rows of all lines are those of the program that the lines are read as.
pub mod TableLaws
-- Laws of sizes: a line has as many rows as are counted for it.
pub mod SizeLaws
