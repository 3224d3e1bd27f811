-- Laws of this crate's definitions. A line of comment for each file.
-- Fields: what a structured table gives at each field of a row, by the row's kind.
pub mod Fields
-- Sound: a structured table is sound, in both forms: what a run asks of a table.
pub mod Sound
-- Expressions, Definitions, Statements: how the trees of a structured table lie on its rows.
pub mod Expressions
pub mod Definitions
pub mod Statements
-- Lists that begin with definitions: what goes along them.
pub mod DefinitionLists
-- Names in expressions: variable numbers have a property that holds at the rows below them, and array numbers name arrays.
pub mod NamedBelow
-- Names: every variable and array number in the tree of a structured table names one.
pub mod Names
-- Words: the tree of a structured table is one whose constants and case values are words.
pub mod Words
pub mod Rows
-- Rows below: the tree at a row of a structured table has at most as many rows as the table.
pub mod RowsBelow
-- Depth: the tree of a structured table is no deeper than its rows.
pub mod Depth
-- Places: in the tree of a legal source program break, continue, case and default stand where they may.
pub mod Places
-- Source: what a legal source program gives to its users.
pub mod Source
-- Resolved: what a legal source program gives of its resolved table.
pub mod Resolved
