-- The table of kinds. A line of comment for each file.

-- ---- definitions
-- Grammar: the table of kinds by number, as the code holds it.
pub mod Grammar
-- Papers: what documents 01 and 02 say of each kind, in their own lines and ranges.
pub mod Papers
-- Searches by a test: the lowest number that it is true of.
pub mod Lowest
-- ---- laws
-- Laws of the grammar: what holds of every kind is tested over the table.
pub mod GrammarLaws
-- Laws of searches by a test: where it answers as a definition, it finds what the definition finds.
pub mod LowestLaws
