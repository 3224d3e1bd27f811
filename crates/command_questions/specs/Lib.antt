-- What the verbs without a budget print. A line of comment for each file.
-- Checks: the line of a check.
pub mod Checks
-- Writes: what `writes` prints.
pub mod Writes
-- Pages: the page of a kernel program.
pub mod Pages
-- Questions: what is printed for a question about one text.
pub mod Questions
-- Translations: what `translate` and `translate-page` print.
pub mod Translations
-- Joins: what `join` prints.
pub mod Joins
