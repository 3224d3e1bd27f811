-- What a table that a check accepts gives to its users. A line of comment for each file.

-- ---- definitions
-- Worded: trees whose constants and case values are words.
pub mod Worded
-- Gives: runs that give a value with a property.
pub mod Gives
-- Named words: the numbers that name a word of the store within the bounds of a table.
pub mod NamedWords
-- Tree rows: how many rows the tree at a row has.
pub mod TreeRows
-- ---- laws
-- Sorts: the table of kinds by kind: what each field of a row of a kind holds.
pub mod Sorts
-- Sums: along the links, row 0 gathers the sum over all rows. Rows: the tree of a structured table has as many rows as the table.
pub mod Sums
-- Endings: a source tree's run ends with no break, continue or search under way.
pub mod Endings
