-- What the proofs of the functions share. A line of comment for each file.
-- Landing: where a jump lands, as the code tests it.
pub mod Landing
-- Tests: the tests of a line, on words that went through a call.
pub mod Tests
-- Table: the table of kinds, as a match on a kind goes through it.
pub mod Table
-- Searches: what `find` over the numbers below a bound answers.
pub mod Searches
