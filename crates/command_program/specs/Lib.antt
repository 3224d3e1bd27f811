-- The command's use of its inputs and of standard output. A line of comment for each file.
-- Responses: what is read for a request, and what is printed for it.
pub mod Responses
