-- Laws of this crate's definitions. A line of comment for each file.
-- Laws of initial expressions: 18 is "an initial expression naming its own number".
pub mod InitialLaws
-- Laws of 7, 19 and 20: "an item of a block", "a number declared twice in one block", "a 65th declaration".
pub mod DeclarationLaws
-- The theorem: the three causes accept exactly the tables whose declarations are as the request demands; so a table without declarations.
pub mod AcceptsDeclared
-- Examples: what the causes answer to small tables, by computing.
pub mod Examples
