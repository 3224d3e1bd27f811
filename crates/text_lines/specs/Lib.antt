-- Lines of numbers, written and read. A line of comment for each file.

-- ---- definitions
-- TextLine: fields parted by tabs, and the lines of a text.
pub mod Line
-- Reader: what the functions that read the numbers of a line answer.
pub mod Reader
-- Writer: how many bytes the words of lines take.
pub mod Writer
-- ---- laws
-- LineLaws: what separators part; a line is read as the numbers that it is written for.
pub mod LineLaws
-- CountLaws: how many numbers a line has, from what counting them answered.
pub mod CountLaws
