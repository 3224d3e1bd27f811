-- Laws of this crate's definitions. A line of comment for each file.
-- Emitted rows: the fields of each suit its kind and its role.
pub mod EmittedRows
-- Emitted rows are linked exactly once.
pub mod EmittedOnce
-- Emitted tables are structured.
pub mod EmittedStructured
-- Emitted tables are as deep as their trees.
pub mod EmittedDepth
-- Each emitted goto has its label ahead.
pub mod EmittedAhead
-- Each emitted statement has kernel form.
pub mod EmittedForms
-- A label that stands once in a tree stands once in its table.
pub mod EmittedLabels
-- Parameters: no two of one function have one word; their rows.
pub mod Parameters
-- The functions of a table whose parameters have words of their own.
pub mod ParameterLists
-- What stands inside a function, or in the main part.
pub mod EmittedInside
-- The functions of an emitted program: definitions at the front, returns inside them, calls to lower ones.
pub mod EmittedFunctions
-- The theorems: the table of a kernel program's tree is legal, and decode gives the tree back.
pub mod EmittedLegal
