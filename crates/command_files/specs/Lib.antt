-- What the command reads. A line of comment for each file.
-- Files: what came of reading a file that was opened.
pub mod Files
