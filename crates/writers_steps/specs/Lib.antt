-- What the writers of an expression's last step ask and find. A line of comment for each file.

-- ---- definitions
-- Asks: what the writers ask of their caller.
pub mod Asks
-- ---- laws
-- Laws of atoms and places.
pub mod AtomLaws
-- Laws of levels.
pub mod LevelLaws
