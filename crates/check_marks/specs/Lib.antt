-- Cause 8. A line of comment for each file.

-- ---- definitions
-- Marks: cause 8, "second equal case, or second default, in one switch".
pub mod Marks
-- MarkTree: a search tree of marks for each list, by which the first repeated mark is found.
pub mod MarkTree
-- ---- laws
-- Laws of distinct marks: cause 8 is document 01's "second equal case, or second default, in one switch".
pub mod DistinctLaws
-- Laws of trees of marks: a mark that finds a free place repeats none before it and is in its tree afterwards; another repeats one.
pub mod MarkTreeLaws
