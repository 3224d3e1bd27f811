-- The causes of declarations in code. A line of comment for each file.

-- ---- definitions
-- Passes: which test each cause makes, and what it looks up of a row.
pub mod Passes
-- Lower: the lower of the rows that two searches found.
pub mod Lower
-- ---- laws
-- Laws of the passes: the nearest row of kind 58 is the nearest declaration; a row that is no declaration breaks no cause.
pub mod PassLaws
-- Laws of the walk for a number: which rows are left, and that the rows below decide.
pub mod WalkLaws
-- Laws of the lower row: a search for either of two properties.
pub mod LowerLaws
-- Laws of bodies: what the pass notes of a row is the function in whose block's own list it stands.
pub mod BodyNotes
