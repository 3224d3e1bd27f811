-- Laws of this crate's definitions. A line of comment for each file.
-- Laws of renaming: the marks of a list stay; a renaming that moves no word and no number gives the program itself.
pub mod RenamingLaws
-- Laws of scope: what is in scope stays so where more words are known.
pub mod ScopedLaws
-- Laws of twins: a rule for each computation; how twin runs begin and end.
pub mod TwinLaws
-- Renamed parts of programs: expressions, a line for each kind; loops and arms over what they hold.
pub mod RenamedParts
-- Declared words: a declaration makes its word known; how the rest of its list goes on, entered or passed over.
pub mod Declared
-- Renamed programs: statements, a line for each kind, and the theorem: a scoped program and its renamed one run alike.
pub mod Renamed
-- Renamed functions: their calls go alike whatever the caller knows.
pub mod RenamedFunctions
