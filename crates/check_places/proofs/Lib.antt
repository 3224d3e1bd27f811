-- Laws of this crate's definitions. A line of comment for each file.
-- Laws of the notes: those inside loops and switches, those of switch items and of marks.
pub mod NoteLaws
