-- The proofs of the reader of pages: laws of the pass that writes the rows, then a folder for each function.
-- HeaderNames: the names that a header gives.
pub mod HeaderNames
-- WaitingRows: rows put on the stack and taken off.
pub mod WaitingRows
-- Suffixes: the last lines of a page.
pub mod Suffixes
-- Passing: what is known when so many lines are left.
pub mod Passing
-- Results: what each answer is.
pub mod Results
