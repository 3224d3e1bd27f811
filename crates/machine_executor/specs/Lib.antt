-- What evaluations, statement runs and list runs answer and ask. A line of comment for each file.

-- ---- definitions
-- Rows: what is done at a row, and what the code asks for it.
pub mod Rows
-- Arms: what the arms of a guarded statement come to.
pub mod Arms
-- Calls: what is done at the arguments of a call.
pub mod Calls
