-- Laws of this crate's definitions. A line of comment for each file.
-- Counting: what has a property stands at one place among what has it; the rows that are placed by it.
pub mod Counting
-- Fronts: the definitions at the front of a program, and the words at the seam of a join. Kept: the words that a join keeps.
pub mod Fronts
pub mod Kept
-- Laws of moved rows.
pub mod MovedLaws
-- MovedKinds, MovedTrees: the trees at the new place of a row are those at its old one, with words and functions renamed; by the row's kind, and of a table.
pub mod MovedKinds
pub mod MovedTrees
-- Placements: the new rows of a program; a table that has its words there holds its rows.
pub mod Placements
-- JoinedRows: the joined rows hold the first's and the second's.
pub mod JoinedRows
-- JoinedSeams: the list of the new block, and where both blocks begin. JoinedFront: its definitions, in order.
pub mod JoinedSeams
pub mod JoinedFront
-- Linkers, JoinedLinks: which word of the joined rows links which row; each row but row 0 is linked once.
pub mod Linkers
pub mod JoinedLinks
-- MovedRoles: a row is a parameter at its new place exactly where it was one.
pub mod MovedRoles
-- MovedLegal, MovedPlaces, MovedDeclarations: what legality asks of a row, of its place and of a declaration's number holds at its new place.
pub mod MovedLegal
pub mod MovedPlaces
pub mod MovedDeclarations
-- MovedNotes: what is handed along the links comes to a row's new place. MovedFunctions: so what is asked of definitions and calls holds there.
pub mod MovedNotes
pub mod MovedFunctions
-- MovedParameters: no declaration in a function's block has the number of a parameter, at the new places too.
pub mod MovedParameters
-- JoinedStructured, JoinedLegal: the join of two legal programs is legal.
pub mod JoinedStructured
pub mod JoinedLegal
-- JoinedRun: the run of the joined items is the one program followed by the other, at every budget.
pub mod JoinedRun
-- MovedFronts: the list of a program's definitions at their new places, and its block. JoinedProgram: the tree of a table of two programs.
pub mod MovedFronts
pub mod JoinedProgram
-- JoinFateLaws: the fate of a join, from its runs at every budget.
pub mod JoinFateLaws
-- JoinLaws: joins worked by hand; the order of a join's own causes; what is not refused is legal, and so is its join.
pub mod JoinLaws
-- PlainJoins: without definitions the first's rows stand behind the new block, and the second's behind these.
pub mod PlainJoins
