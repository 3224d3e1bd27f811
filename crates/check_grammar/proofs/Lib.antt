-- Laws of this crate's definitions. A line of comment for each file.
-- Laws of the papers: the table of kinds, and the code's array of it, are what documents 01 and 02 say.
pub mod PaperLaws
