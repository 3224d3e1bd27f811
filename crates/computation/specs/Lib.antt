-- Computations: what a program does, apart from any language. A line of comment for each file.

-- ---- definitions
-- The effects of document 01 and their sequence.
pub mod Computation
-- What a computation does under a limit.
pub mod Run
-- The writes that a run makes.
pub mod WritesMade
-- The same runs, told by the steps that are left: what a machine carries.
pub mod Remaining
-- Runs with no limit on steps.
pub mod Unlimited
-- Agreement: two states that agree on a set of store words.
pub mod Agreement
