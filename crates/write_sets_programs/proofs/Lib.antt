-- Laws that the proofs of functions share. A line of comment for each file.
-- ArrayLaws: the arrays of a row by its links, and the table of arrays.
pub mod ArrayLaws
-- UnionLaws: the sets of the rows joined, row by row.
pub mod UnionLaws
-- ArrayWriteLaws: the test and the relation of ArrayWrites say the same.
pub mod ArrayWriteLaws
-- ProgramWriteLaws: a bit of a program's sets is 1 exactly where some row has the place.
pub mod ProgramWriteLaws
