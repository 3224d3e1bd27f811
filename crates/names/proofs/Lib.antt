-- Laws of this crate's definitions. A line of comment for each file.
-- Laws of tables made word by word.
pub mod TableLaws
-- Laws of scope: what a row's scope and a number's meaning are; a declaration's word is its own.
pub mod ScopeLaws
-- Laws of the resolved table: its length, kinds, sorts, links, depths and lists are the table's; only the names change.
pub mod ResolvedLaws
-- Laws of meaning: a row's scope is the innermost declaration in whose scope it stands; a number means the innermost one that has it.
pub mod MeaningLaws
-- Laws of parameters: where nothing hides it, the number of a parameter means that parameter, at every row of its function.
pub mod ParameterLaws
-- Laws of resolved names: a declaration names its own word, a name its declaration's word or the header's variable.
pub mod ResolvedNames
-- The resolved table is structured as the table is, over a store with D words behind the first S.
pub mod ResolvedStructured
-- Examples: resolved tables, by computing.
pub mod Examples
