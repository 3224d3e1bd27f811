-- What the writers of expressions write. A line of comment for each file.

-- ---- definitions
-- Code: the parts of an expression's code that have a writer of their own.
pub mod Code
-- Asks: what the writers of expressions ask of their caller.
pub mod Asks
-- ---- laws
-- Laws of an expression's code: its parts, and their rows.
pub mod CodeLaws
