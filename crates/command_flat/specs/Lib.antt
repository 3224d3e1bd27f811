-- What is printed for the text of a flat list, and the text of one. A line of comment for each file.
-- Lists: what is printed for a text, the line of a check and that of a run.
pub mod Lists
-- Flattenings: the list of a kernel program.
pub mod Flattenings
