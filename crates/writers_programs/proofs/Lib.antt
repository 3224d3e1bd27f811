-- What the proofs of this crate share. A line of comment for each file.
-- Parameters: the parameters of a function, one behind another.
pub mod ParameterLaws
-- List measures: the labels and the levels of a list.
pub mod ListMeasures
-- Functions: the code of a definition, one part behind another, and of a program's main part.
pub mod FunctionLaws
-- Programs: the block at row 0 with its list, and the labels of a program's code.
pub mod ProgramLaws
