-- What the leaves write. A line of comment for each file.

-- ---- definitions
-- Room: the part of a table that is free for rows, and whether anything stands behind them.
pub mod Room
-- Atoms: the kernel's atoms and places, as the code holds them.
pub mod Atoms
-- Straight: what an expression does with the values of its first two operands, and the rows that head an assignment and a loop.
pub mod Straight
-- Guarded: the rows of the guarded forms, beside the code of their guards and blocks.
pub mod Guarded
-- Chains: parts of a table written one behind the other.
pub mod Chain
-- ---- laws
-- Laws of the leaves: what they wrote, as lists of kernel items with their rows.
pub mod LeafLaws
