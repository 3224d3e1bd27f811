-- What evaluations answer and ask. A line of comment for each file.

-- ---- definitions
-- Bounds: where the arrays lie in the store, as a list.
pub mod Bounds
-- Answers: what the code's answers say of a run.
pub mod Answers
-- Rows: what is done at a row.
pub mod Rows
-- Functions: what a run asks of the functions of a table and of its calls.
pub mod Functions
-- Ready: what the code asks of a table, a row and a store.
pub mod Ready
