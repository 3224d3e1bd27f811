-- The write sets of the source rows. A line of comment for each file.

-- ---- definitions
-- Write sets: what the table of write sets holds.
pub mod WriteSets
-- Reaches: what an expression's own row writes, and the links at which more is written.
pub mod Reaches
