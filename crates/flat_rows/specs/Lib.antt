-- The flat list of a kernel program, row by row. A line of comment for each file.

-- ---- definitions
-- Places: how many lines a list has, the line at which each row stands, and the lines that are a row's own.
pub mod Places
-- Lines put: lines of a list stored in a table of words.
pub mod LinesPut
-- ---- laws
-- Atoms: the operand that an atom's row holds.
pub mod Atoms
-- Operations: the line of an assignment, read from its rows.
pub mod Operations
