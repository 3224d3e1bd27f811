-- Check and run of both forms. A line of comment for each file.

-- ---- definitions
-- Runs: the answers of run and kernel run, and what they leave in the store.
pub mod Runs
-- Acceptance: the second promise of check and kernel check: they accept the legal programs and no others.
pub mod Acceptance
