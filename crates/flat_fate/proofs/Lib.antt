-- Laws of this crate's definitions. A line of comment for each file.
-- The code of a tree stands in a list that has it.
pub mod CodeStands
-- Laws of addresses: every kernel program shares its fate with its own list.
pub mod AddressLaws
-- Fewer lines than rows.
pub mod LineCount
-- Laws of flat words: exact size, lines read back, equal fate about rows and words.
pub mod FlatWordsLaws
-- The flat list of a kernel tree is legal.
pub mod CodeLegal
