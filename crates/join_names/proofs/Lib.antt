-- Laws of this crate's definitions. A line of comment for each file.
-- JoinedWords: a program's declared words stand where the new rows of its declarations put them.
pub mod JoinedWords
-- JoinedNames: both parts of a join whose names are resolved, and its tree.
pub mod JoinedNames
-- MovedRun: what is shown of a run does not hang on where its declared words stand, nor on what they held at the start.
pub mod MovedRun
-- JoinedFateLaws: the fate of a join, from its run at every budget.
pub mod JoinedFateLaws
