-- What statement runs answer, and where a list goes on. A line of comment for each file.

-- ---- definitions
-- Flows: what a statement's answer says of a run.
pub mod Flows
-- Lists: where a list goes on.
pub mod Lists
-- Calls: the rows of arguments and parameters.
pub mod Calls
-- FunctionRows: the rows of the functions of a table as a list.
pub mod FunctionRows
