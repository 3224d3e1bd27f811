-- The resolved table in code. A line of comment for each file.

-- ---- definitions
-- Passes: what the passes over a table leave.
pub mod Passes
-- ---- laws
-- Laws of the passes: what each has written after so many words or rows, and what the tables hold when all are done.
pub mod ScanLaws
-- Laws of the searches outward and along parameters: one declaration at a time.
pub mod MeantLaws
-- Laws of the resolved words, a case each; and a table filled word by word.
pub mod WordLaws
