-- What stands at each row of a legal kernel program, whatever the numbering. A line of comment for each file.

-- Statement links: the fields of a kernel row that link a statement.
pub mod StatementLinks
-- Kernel tables: the rows of a plain kernel program.
pub mod KernelTable
