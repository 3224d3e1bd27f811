-- Laws of this crate's definitions. A line of comment for each file.
-- The front: the definitions of a table are the functions of its program.
pub mod Front
-- Counts: as many arguments and parameters as their lists have rows.
pub mod Counts
-- Calls: the functions and calls of a program are in order, and what a run asks of them holds.
pub mod Calls
-- Behind: a call stands at a later row than the number of its function. Sources: what the translator asks of functions and calls holds.
pub mod Behind
pub mod Sources
-- Few parameters: no function has more than 64.
pub mod Few
-- Structured tables: their links are as the trees of functions ask.
pub mod Structured
