-- The kernel on paper (docs/PAGES.md). A line of comment for each file.

-- ---- definitions
-- Lines: a kernel program as lines, and the program that lines are.
pub mod Lines
-- Page: what stands in a line, and a page's bytes.
pub mod Page
-- Reading: the line that bytes are, and the program that a page is.
pub mod Reading
-- Tables: the page of a kernel table, and the rows that a page is read as with the table's header.
pub mod Tables
-- ---- laws
-- Examples: the page of document 01's program in kernel form, one with every statement, and pages that are none; Texts: quoted lines.
pub mod Texts
