-- Words, tables and layouts; kinds and links; the answers that the crates share. A line of comment for each file.

-- ---- definitions
-- Words: what is one, and the number that one names.
pub mod Word
-- Tables: the rows of a program, and the words of a row.
pub mod Table
-- Declarations: the rows of kind 58, and how many there are.
pub mod Declarations
-- Forms and layouts: the limits of both forms, the header, the store.
pub mod Layout
-- Kinds: the table of kinds of documents 01 and 02: numbers, sorts of fields, forms.
pub mod Kinds
-- Searches: the lowest number, or the lowest row, with a property.
pub mod Search
-- Links: what a row is, which row a field links and which fit there; what is handed along the links.
pub mod Links
-- Over: what stands in a table or a buffer after values were written from its start.
pub mod Over
-- Causes: the number of each, in document 01's table.
pub mod Causes
-- Refusals: a cause by its number, and its place.
pub mod Refusals
-- Answers: the papers' numbers and words for each case of an enum.
pub mod Answers
-- Numbers: an entry's answer in document 01's numbers.
pub mod Numbers
-- ---- laws
-- Laws of `over`: values written one after the other, and parts that are lent and given back.
pub mod OverLaws
-- Laws of answers: numbers and names of endings are apart, and short.
pub mod AnswerLaws
-- Laws: what follows from these definitions.
pub mod Laws
-- Laws of declarations and of the sizes of stores.
pub mod StoreLaws
-- Laws of the table of kinds.
pub mod KindLaws
-- Laws of searches.
pub mod SearchLaws
