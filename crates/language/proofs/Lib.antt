-- Laws of this crate's definitions. A line of comment for each file.
-- The theorem: every rule of the four tables holds.
pub mod RulesHold
-- The writes that some runs make.
pub mod WriteExamples
-- Laws of write sets: the test is exact; an expression leaves the variables outside its set alone.
pub mod WriteLaws
pub mod UntouchedLaws
-- The same of statements and functions.
pub mod FunctionUntouched
-- Laws of functions: a call is the run of its function; programs without functions.
pub mod FunctionLaws
pub mod PlainTables
pub mod PlainCalls
