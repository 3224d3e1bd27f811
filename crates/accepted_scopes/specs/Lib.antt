-- The scope of names in a source program whose names are resolved. A line of comment for each file.

-- ---- definitions
-- Sources: what the check gives of a source table, as far as its names are concerned.
pub mod Sources
-- Known: the words that are known at a row.
pub mod Known
-- ---- laws
-- Laws of known words: a row's parts know what it knows; its next item, what it declares too.
pub mod KnownLaws
-- Lists: a row is an item of one list, so that no mark stands behind a declaration.
pub mod Lists
