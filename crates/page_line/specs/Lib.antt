-- One line of a page. A line of comment for each file.

-- ---- what the contracts cite
-- Laid: bytes laid into a buffer from a place on.
pub mod Laid
-- Reads: tables whose rows can be read, and what stands at a row.
pub mod Reads
-- Contents: the line that a value of the enum stands for, and parts of its bytes.
pub mod Contents
-- Printed: lines printed into a page behind others.
pub mod Printed
-- ---- laws
-- Laws of bytes laid one after the other.
pub mod LaidLaws
-- Laws of reading: from sound links.
pub mod ReadsLaws
-- Laws of contents: the bytes of each form of line, piece by piece.
pub mod ContentLaws
-- Laws of printed lines: a line, and lines behind others.
pub mod PrintedLaws
