-- Joins of programs with declarations and functions: their names, and how they run. A line of comment for each file.

-- ---- definitions
-- JoinedFate: all that is promised of a join, over the first S words, whatever the declared words held at the start.
pub mod JoinedFate
-- Examples: joins of programs that declare a number, their names resolved, by computing.
pub mod Examples
-- WordsOfJoin: the word of a join that stands for a word of one of its programs.
pub mod WordsOfJoin
-- ---- laws
-- MovedScope: the scope of a moved row, and what a number means there, are the moved ones.
pub mod MovedScope
-- ResolvedFronts: resolving names leaves the definitions at the front of a program as they were.
pub mod ResolvedFronts
-- MovedNames: a resolved table that holds another one's rows, with its words and its functions renamed.
pub mod MovedNames
-- JoinedCalls: functions are looked up by their new numbers.
pub mod JoinedCalls
