-- The proofs of the command's requests: laws that several functions use, then a folder for each function.
-- Names: bytes that are no verb's name.
pub mod Names
-- Words: the words of a store file, read one after the other.
pub mod Words
