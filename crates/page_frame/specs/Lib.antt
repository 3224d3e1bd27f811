-- A line of a page in its frame (docs/PAGES.md). A line of comment for each file.

-- ---- definitions
-- Frames: the line that 81 bytes are.
pub mod Frames
