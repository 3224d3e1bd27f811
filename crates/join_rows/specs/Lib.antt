-- The rows of a join, as the code writes them. A line of comment for each file.

-- ---- definitions
-- Parts: what is known of two programs before their rows are written as one.
pub mod Parts
-- Standings: what is noted of a program's rows before they are written, and where they stand in the join.
pub mod Standings
-- ---- laws
-- Laws of standings: the walks that note them.
pub mod StandingLaws
-- Laws of what is noted of both programs: where they stand in their join.
pub mod NotedLaws
-- Laws of what the code writes: words, rows and parts, one behind the other.
pub mod RowLaws
-- Laws of the parts of a join: the new block and the four parts behind it, and the room for each.
pub mod PartLaws
