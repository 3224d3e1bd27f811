-- What the writers of statements write. A line of comment for each file.

-- ---- definitions
-- Code: the parts of a statement's code that have a writer of their own.
pub mod Code
-- Items: what the first item of a list brings to the code of the list, and the first of some arms.
pub mod Items
-- Asks: what the writers of statements ask of their caller.
pub mod Asks
