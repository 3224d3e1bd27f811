-- Notes along the links. A line of comment for each file.

-- ---- definitions
-- RowNotes: what a row hands to the rows that it links, and the note of each row.
pub mod RowNotes
-- ---- laws
-- Laws of the notes: along the links; those of items and of earlier rows of a list are those of check_items; a pass over the words writes them.
pub mod RowNoteLaws
