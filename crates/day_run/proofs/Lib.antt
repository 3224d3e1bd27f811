-- The proofs of a day's runs: laws that several functions use, then a folder for each function.
-- Pairs: the walk over pairs.
pub mod Pairs
-- Doing: one line on a copy of the store, and the walk over lines.
pub mod Doing
-- DayLaws: a line runs the rule; lists of lines one after the other, counts, and lines that change nothing.
pub mod DayLaws
