-- What a program means. A line of comment for each file.

-- ---- definitions
-- Programs: the table that a program's rows stand for, and the run of a program.
pub mod Program
-- ---- laws
-- Laws of the runs of programs: enough budget.
pub mod ProgramLaws
-- Laws of the table that a program's rows stand for.
pub mod ResolvedRows
