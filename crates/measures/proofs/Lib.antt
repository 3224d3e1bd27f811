-- A statement's and a list's measures, shape by shape.
pub mod StatementLaws
-- The measures of a program, along its definitions.
pub mod ProgramLaws
