-- Both checks by tests that cost less to compute on a small table, for theorems about tables that hold by computing. A line of comment for each
-- file.

-- ---- definitions
-- Brief: the tests.
pub mod Brief
-- Brief notes: what is noted along the links, with the rows that are linked listed once.
pub mod BriefNotes
-- ---- laws
-- Laws of the brief tests: the checks answer the same.
pub mod BriefLaws
-- Laws of the brief notes: they are the notes.
pub mod BriefNoteLaws
-- Pass laws: what the pass for the causes 3, 4 and 6 finds, in numbers.
pub mod PassLaws
