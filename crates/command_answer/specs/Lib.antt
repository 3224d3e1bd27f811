-- The answers of the command. A line of comment for each file.
-- Output: what it prints for a request, a text and a file.
pub mod Output
-- Inputs: what is printed for what came of reading standard input and the file.
pub mod Inputs
