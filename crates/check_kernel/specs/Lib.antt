-- The check of kernel programs. A line of comment for each file.

-- ---- definitions
-- Refusal: what the check answers.
pub mod Refusal
-- Legal: what document 01 demands of a kernel program.
pub mod Legal
-- ---- laws
-- Accepts: the check accepts the legal kernel programs and no others.
pub mod Accepts
-- Sample: a small kernel program that is legal; the same with a function.
pub mod Sample
pub mod FunctionSample
