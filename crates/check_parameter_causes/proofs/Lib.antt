-- Laws of this crate's definitions. A line of comment for each file.
-- Laws of blocks of functions: the note says in which function's list a row stands.
pub mod BodyLaws
-- Laws of the search along a list: it meets exactly the rows of the list.
pub mod SearchLaws
-- The theorem: the test is true exactly at a declaration whose number a parameter of its function has.
pub mod ParameterLaws
