-- What a table that the kernel check accepts gives to its users. A line of comment for each file.

-- ---- laws
-- Jumps: in a kernel tree every jump of a run finds its label.
pub mod Jumps
-- Assignments: the expressions of a legal kernel program have kernel form.
pub mod Assignments
-- Labels: a label that is ahead of a row stands among the items ahead of its tree.
pub mod Labels
-- Definitions: where the definitions of a legal kernel program stand, and which rows stand in a function.
pub mod Definitions
-- Forms: the statements of a legal kernel program have kernel form, given the lists of later blocks.
pub mod Forms
-- Lists: the lists of a legal kernel program have kernel form, and so has the program.
pub mod Lists
-- Parameters name declared words.
pub mod Parameters
