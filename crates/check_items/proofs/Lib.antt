-- Laws of this crate's definitions. A line of comment for each file.
-- Laws of a list's items: the note says which rows they are.
pub mod ItemLaws
-- Laws of earlier items: a search back from a row meets exactly the items of the sort before it in its list.
pub mod EarlierLaws
