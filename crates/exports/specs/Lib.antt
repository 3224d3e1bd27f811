-- The library for C and Rust: what its answers say. A line of comment for each file.

-- ---- definitions
-- Numbers: the numbers of each answer.
pub mod Numbers
-- ---- laws
-- NumbersLaws: a translation whose answer has no cause was made.
pub mod NumbersLaws
-- JoinNumbersLaws: a join whose answer has no cause was made.
pub mod JoinNumbersLaws
-- ListNumbersLaws: a flattening whose answer has no cause was made.
pub mod ListNumbersLaws
