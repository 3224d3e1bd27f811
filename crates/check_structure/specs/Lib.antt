-- What the checks of both forms share. A line of comment for each file.

-- ---- definitions
-- Links: how often a row is linked; depth. Causes 5 and 9.
pub mod Links
-- Refusal: the causes 1 to 6 in order of number, each at the lowest row that breaks it.
pub mod Refusal
-- Structured: what document 01 demands of the rows of both forms.
pub mod Structured
-- Lists: which item stands before another in a list.
pub mod Lists
-- Passes: what the code's loops compute.
pub mod Passes
-- ---- laws
-- Laws of links: in a tree of rows each row but row 0 has one owner, and `linker` finds it.
pub mod LinkLaws
-- Laws of notes: in a tree of rows a note is what the owner hands on; and what a pass over the words has written.
pub mod NoteLaws
-- Laws of written notes: a pass over the words, in order, writes every row's note.
pub mod WrittenLaws
-- Laws of depth: the depth that is computed is the depth of document 01.
pub mod DepthLaws
-- Laws of refusals: a chain of causes, one at a time; and where a whole chain accepts.
pub mod RefusalLaws
-- Laws of the pass for the causes 3, 4 and 6: the least cause at its lowest row is what the chain of causes names.
pub mod CauseLaws
-- Laws of structure: the causes 1 to 6 accept exactly the structured tables, whose rows make a tree.
pub mod StructuredLaws
-- Laws of roles: the parameters of a structured table, along its links.
pub mod RoleLaws
