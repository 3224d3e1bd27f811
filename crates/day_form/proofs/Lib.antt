-- The proofs of the day's reader: laws that several functions use, then a folder for each function.
-- Bounds: where the rule ends, and how the lines are counted.
pub mod Bounds
-- Numbers: the numbers of a line, read into a table.
pub mod Numbers
-- Tests: the walk over pairs, and over the lines that are tested.
pub mod Tests
-- Differences: highest less lowest, as a word or too large for one.
pub mod Differences
-- Values: a setting that is read has 1 to 100 values, all of them words.
pub mod Values
-- Plans: the first ground on which the setting and the day lines are turned away.
pub mod Plans
