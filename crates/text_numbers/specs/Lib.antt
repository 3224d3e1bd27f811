-- Numbers of a text, written and read. A line of comment for each file.

-- ---- definitions
-- Number: how one is written, and which bytes are one.
pub mod Number
-- Reader: what the functions that read a number answer.
pub mod Reader
-- Writer: what a function that writes at the start of a buffer leaves.
pub mod Writer
-- ---- laws
-- Examples: bytes that are numbers and bytes that are not.
pub mod Examples
-- NumberLaws: what is read as a number is what the number is written with.
pub mod NumberLaws
-- PutLaws: bytes put one after the other at the start of a buffer.
pub mod PutLaws
