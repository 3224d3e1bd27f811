-- Laws of this crate's definitions. A line of comment for each file.
-- Laws of roles: the search finds the parameters and no others; a field is a link in both roles or in neither.
pub mod RoleLaws
-- Laws of the marks: one row after the other marks every parameter.
pub mod MarkLaws
