-- The printer of kernel pages. A line of comment for each file.

-- ---- what the contracts cite
-- Outlines: which lines an item has of its own, and where its blocks stand.
pub mod Outlines
-- Ready: what the printing and the counting of lines ask.
pub mod Ready
-- Pages: what the printer answers, and what it leaves in the page.
pub mod Pages
-- ---- laws
-- Levels: how many lines there are does not hang on the level.
pub mod Levels
-- Laws of assignments: an expression statement's lines are those of its outline.
pub mod AssignmentLaws
-- Laws of outlines: an item's lines are those of its outline, and its blocks are rows of the table.
pub mod OutlineLaws
-- Laws of readiness: for the first of some lines, and for those behind.
pub mod ReadyLaws
-- Laws of functions: arguments and parameters one after the other, and their lines printed behind others.
pub mod FunctionLaws
-- Laws of counts: the lines of an item and of a list, by those of its parts.
pub mod CountLaws
-- Walks: a list's items printed one after the other.
pub mod Walks
-- Laws of pages: a legal table is ready to be counted and printed.
pub mod PageLaws
