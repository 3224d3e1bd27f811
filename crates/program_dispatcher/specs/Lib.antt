-- The dispatcher's run. A line of comment for each file.

-- ---- definitions
-- Dispatcher runs: the answer of the dispatcher's run, and what it leaves in the words.
pub mod DispatcherRuns
-- ---- laws
-- Laws of the dispatcher's run: a store made of its words and of zeros, and the words taken back.
pub mod DispatcherLaws
