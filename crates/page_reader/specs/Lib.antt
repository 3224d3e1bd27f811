-- The reader of pages: what it answers, and the rows that it leaves. A line of comment for each file.

-- ---- definitions
-- Reads: the answer, in numbers too, and what stands in the table after it.
pub mod Reads
-- Stacks: what the lines that are done leave, as the code holds it, and what is known of a page whose rows were counted.
pub mod Stacks
-- ---- laws
-- Laws of reads: a page without a wrong line is read by page/Tables as the rows of its lines.
pub mod ReadLaws
-- Scans of tables: the page of every legal kernel table is scanned to its end.
pub mod TableScans
-- Printed pages: the page of every legal kernel table is read; nothing but a short table is refused.
pub mod PrintedPages
