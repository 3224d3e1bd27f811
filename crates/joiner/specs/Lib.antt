-- Joining: the answer of a join, and what it leaves. A line of comment for each file.

-- ---- definitions
-- Joining: what a join answers and what stands in the table after it; the promise of the words written.
pub mod Joining
-- Joinable: what is known of two programs before their rows are joined.
pub mod Joinable
-- ---- laws
-- Laws of what the code writes and tests.
pub mod JoinerLaws
