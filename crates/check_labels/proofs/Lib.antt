-- What the proofs of the code share. A line of comment for each file.
-- What a row hands on.
pub mod Handed
-- One row more in the chains.
pub mod Chaining
-- Marks of the lists that have labels with a number.
pub mod Marking
-- The rows that break cause 13, and the lowest of them.
pub mod Faults
-- Laws of lists: which rows stand in one list, and who owns them.
pub mod ListLaws
-- Laws of labels: the search of cause 13 finds a label exactly where one is ahead.
pub mod LabelLaws
