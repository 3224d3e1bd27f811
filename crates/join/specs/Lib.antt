-- Joins: two source programs become one. A line of comment for each file.

-- ---- definitions
-- Join: the rows of a join, and what it refuses.
pub mod Join
-- Followed: one run behind another, on the steps left.
pub mod Followed
-- JoinFate: how a join ends, in the request's words, by the runs of three programs.
pub mod JoinFate
-- JoinedTrees: the items of a join, from those of both programs.
pub mod JoinedTrees
-- Moved: a table that holds another one's rows at other places, with its links led along.
pub mod Moved
