-- Names inside a block. A line of comment for each file.

-- ---- definitions
-- Names: the store word that a number means at a row, and the table in which each name stands for its store word.
pub mod Names
-- Scope: the rows in a declaration's scope, as a relation in the request's words.
pub mod Scope
-- ---- laws
-- Laws of two tables with the same links: what is said along the links of one holds of the other.
pub mod SameLinks
