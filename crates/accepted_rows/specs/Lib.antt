-- The rows that a run enters and a translation reads. A line of comment for each file.

-- ---- laws
-- Laws of an accepted source program's resolved table: what writing it asks, that it is lent, and where it is the rows themselves.
pub mod ResolvedPrograms
