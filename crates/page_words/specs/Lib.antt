-- What the words of a page's line say (docs/PAGES.md). A line of comment for each file.

-- ---- definitions
-- Compare: bytes at the start of others, alone, or around what is between them.
pub mod Compare
-- Texts: the bytes of each line, and which lines fit.
pub mod Texts
-- Reads: the line that bytes are.
pub mod Reads
-- ---- laws
-- Laws of comparing: framed bytes are those with these around them.
pub mod CompareLaws
-- Trees: the line of a page that each line read is; the same bytes there.
pub mod Trees
