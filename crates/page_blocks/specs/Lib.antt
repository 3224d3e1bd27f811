-- The blocks of a page's lines, from the first line to the last. A line of comment for each file.

-- ---- definitions
-- Blocks: which blocks are open before each line, and the lines with their levels.
pub mod Blocks
-- Scans: a page from its first line to its last: how many rows it has, or the first line that is wrong.
pub mod Scans
-- Lines of a page: whether they fit its names, and how many rows they have.
pub mod LinesFit
