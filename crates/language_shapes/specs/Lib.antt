-- What stands at a row, with its links. A line of comment for each file.
-- Shapes: what a row of each kind is, the trees that shapes stand for, and that their links lead on.
pub mod Shapes
-- Functions: what the translator asks of the functions of a table and of its calls.
pub mod Functions
-- Sources: what the translator asks of a table of source rows, and what stands at a row of one.
pub mod Source
-- Laws of shapes: what stands at a row of a sound table, kind by kind; and what a match on a shape tells of a row.
pub mod ShapeLaws
-- Laws of calls: what holds of the calls of a table holds of a row whose tree is a call.
pub mod CallLaws
