-- What the command is asked. A line of comment for each file.

-- ---- definitions
-- Ascii: names and sentences as bytes.
pub mod Ascii
-- Requests: what the arguments ask for.
pub mod Requests
-- Inputs: what came of reading standard input, or the file that is named.
pub mod Inputs
-- StoreFile: the words of a store file.
pub mod StoreFile
