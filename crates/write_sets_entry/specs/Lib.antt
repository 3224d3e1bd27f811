-- What a source program can write. A line of comment for each file.
-- Told: the answers for any words.
pub mod Told
