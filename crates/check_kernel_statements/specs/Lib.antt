-- Cause 12. A line of comment for each file.

-- ---- definitions
-- Statements: cause 12, "statement not of kernel form".
pub mod Statements
-- ---- laws
-- Laws: beyond a table every word is 0; the arguments of a call, one at a time.
pub mod Laws
