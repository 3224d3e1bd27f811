-- What a program can write. A line of comment for each file.

-- ---- definitions
-- ArrayWrites: which arrays an expression can write an element of, as crate language says of variables.
pub mod ArrayWrites
-- ProgramWrites: what any row of a program can write, and how many variables that are.
pub mod ProgramWrites
-- Links: the links of an expression, by its shape.
pub mod Links
-- Arrays: what the table of arrays holds, a word for each row.
pub mod Arrays
