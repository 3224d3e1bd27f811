-- Laws of this crate's definitions. A line of comment for each file.
-- Laws of lines: a kernel program's lines are read back as its items; how many there are.
pub mod LinesLaws
-- Fits: lines of kernel form whose constants are words and whose names are within bounds; a kernel program has no others.
pub mod Fits
-- Laws of words: printed bytes fall into the words that were printed, and numbers, names and operators are read back.
pub mod WordLaws
-- Function words: what the words of calls and definitions end in and begin with.
pub mod FunctionWords
-- Read-back: what is printed is read back, word by word, line by line, then the page.
pub mod ReadBack
-- Widths: every line has 80 columns and a newline.
pub mod Widths
pub mod Examples
