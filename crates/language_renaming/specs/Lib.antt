-- Programs whose words stand elsewhere in the store run alike. A line of comment for each file.

-- ---- definitions
-- Renaming: a program with every variable named by another store word, and every function by another number.
pub mod Renaming
-- Twins: two states, two results and two computations that are the same but for where the words stand.
pub mod Twin
-- Scope: every name in a tree is known where it stands. A declaration makes its word known to the rest of its list.
pub mod Scoped
