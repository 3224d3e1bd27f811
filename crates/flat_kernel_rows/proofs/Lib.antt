-- Laws of this crate's definitions. A line of comment for each file.
-- Rows: the statement at a row, by the number of its kind, with its links.
pub mod Rows
-- Labels: a label stands once in the tree.
pub mod Labels
-- Tree: the tree of a legal kernel program is a kernel tree.
pub mod Tree
