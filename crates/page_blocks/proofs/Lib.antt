-- Laws of this crate's definitions. A line of comment for each file.
-- Waits: the lists that wait where lines are read from the last to the first, against what is open; Steps: each line before the others.
pub mod Waits
pub mod StepLaws
-- Laws of blocks: lines whose blocks close are the lines of a program, at their levels.
pub mod BlockLaws
-- Laws of scans: a page without a wrong line is the page of its program.
pub mod ScanLaws
-- Laws of pages: a page without a wrong line is read by page/Reading as the program of its lines.
pub mod PageLaws
-- Complete: the page of balanced lines that fit is scanned to its end.
pub mod ScanComplete
-- Laws of rows: the rows counted are those of the program.
pub mod RowLaws
