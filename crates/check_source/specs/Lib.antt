-- The check of source programs. A line of comment for each file.

-- ---- definitions
-- Refusal: what the check answers.
pub mod Refusal
-- Legal: what document 01 demands of a source program, Change 11 of its declarations and Change 13 of its functions.
pub mod Legal
-- ---- laws
-- Carried places: in another table that holds a table's rows with their kinds and links, as the resolved one does.
pub mod Carried
-- Laws of declarations: a legal source program has at most 64.
pub mod DeclarationLaws
