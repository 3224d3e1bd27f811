-- The pass over a page in code. A line of comment for each file.

-- ---- definitions
-- Stacks: the numbers that an array holds from its start on, and the open blocks that they are.
pub mod Stacks
-- ---- laws
-- Laws of stacks: numbers put on and taken off; blocks opened, turned and closed.
pub mod StackLaws
