-- A source program and the flat list of its translation. A line of comment for each file.

-- ---- definitions
-- Source and flat: what it is for a source program and a flat list to share their fate.
pub mod SourceFlat
-- ---- laws
-- Functions of a source program, and of its translation.
pub mod SourceFunctions
-- The theorems: every accepted program without functions shares its fate with the flat list of its translation; one with functions gets 25.
pub mod SourceFlatLaws
