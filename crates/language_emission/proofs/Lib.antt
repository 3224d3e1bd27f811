-- Laws of this crate's definitions. A line of comment for each file.
-- Laws of emitted trees: the words of a tree's emission are its rows.
pub mod EmittedLaws
-- Read-back: decode gives the tree from which a table was emitted.
pub mod ReadBack
