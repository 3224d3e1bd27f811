-- What the proofs of this crate share. A line of comment for each file.
-- Sets and the words that they hold, the table of sets, and which values are copied by them.
pub mod WriteLaws
-- The reach of an expression, by its shape, and its set, from those of its links.
pub mod ReachLaws
-- The sets of a call's arguments, joined along their list.
pub mod ArgumentLaws
