-- From a table's legality about functions to what runs and translations ask of them. A line of comment for each file.

-- ---- definitions
-- Tables: what legality says of the functions of a table.
pub mod Tables
-- ---- laws
-- Kinds: a row's kind and its number, for definitions and calls.
pub mod Kinds
-- Owners: a row is linked once; definitions have one place each.
pub mod Owners
-- Calls along the links: trees whose rows have a property that goes along the links call below a limit.
pub mod CallsAlong
-- Distinct numbers: different numbers among so many are at most so many.
pub mod Distinct
-- Resolved tables: the resolved table has the same functions and calls.
pub mod Resolved
