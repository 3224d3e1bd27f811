-- Texts of flat lists. A line of comment for each file.

-- ---- definitions
-- Text: the text of a list, and the list that a text gives.
pub mod Text
-- Answers: what reader and writer return and leave.
pub mod Answers
-- Writer: what the writer's inner functions answer.
pub mod Writer
-- ---- laws
-- ReaderLaws: what the reader gives, by its first line.
pub mod ReaderLaws
-- WriterLaws: what the writer gives, by its causes; a written list is read back, and a read one written alike.
pub mod WriterLaws
