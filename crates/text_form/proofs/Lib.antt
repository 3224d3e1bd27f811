-- The proofs of the reader and the writer: laws that several functions use, then a folder for each function.
-- Rows: the walk over the lines of the rows.
pub mod Rows
-- Filling: the same walk, which stores the words.
pub mod Filling
-- Shapes: the ways that reading a whole text can go.
pub mod Shapes
-- Writing: rows and whole texts put into a buffer.
pub mod Writing
-- Sizing: how many bytes a text takes, and what a writer leaves.
pub mod Sizing
-- Examples: the shortest texts.
pub mod Examples
-- TextLaws: a text is read as the header and rows that it is written for.
pub mod TextLaws
-- ReaderLaws: the lines of a well-formed text, as the functions that store their numbers are lent them.
pub mod ReaderLaws
-- AnswerLaws: what is known where a text was accepted, or a header and rows written.
pub mod AnswerLaws
-- SizeLaws: what reader and writer answer fits the tables and the buffer that they were lent.
pub mod SizeLaws
-- RoundTrip: text written again gives the same bytes, rows read again the same rows.
pub mod RoundTrip
