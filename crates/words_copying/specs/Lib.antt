-- Words copied over others. A line of comment for each file.

-- ---- laws
-- Laws of words put over others.
pub mod OverLaws
