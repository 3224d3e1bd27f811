-- The causes that lie in one field of a row. A line of comment for each file.

-- ---- definitions
-- Fields: the causes that lie in one field of a row: 3, 4 and 6.
pub mod Fields
-- ---- laws
-- Laws of fields: a number that fits a declaration lies in its range, and the ranges of both forms lie in the words that a header gives.
pub mod FieldLaws
