-- The causes of functions in code. A line of comment for each file.

-- ---- definitions
-- Passes: which test each cause makes, and what is known of the rows.
pub mod Passes
-- ---- laws
-- Laws of the walk along the definitions at the front: it writes the definition of each number.
pub mod WalkLaws
-- Laws of what is known of the rows: the note of definitions around a row is the function that it stands in.
pub mod KnownLaws
