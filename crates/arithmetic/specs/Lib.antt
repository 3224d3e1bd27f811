-- 32-bit arithmetic. A line of comment for each file.

-- ---- definitions
-- Arithmetic: the operations on words, with their faults.
pub mod Arithmetic
