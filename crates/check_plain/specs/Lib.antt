-- Plain kernel programs. A line of comment for each file.

-- ---- definitions
-- Refusal: what the check of a plain kernel program answers.
pub mod Refusal
-- Plain: the legal kernel programs without functions.
pub mod Plain
-- ---- laws
-- Accepts: the check accepts the plain kernel programs and no others.
pub mod Accepts
-- Laws of plain kernel programs: no row of theirs is of the kinds of functions.
pub mod PlainLaws
