-- What the proofs of functions share.
-- Signs: a word from its size, and its size.
pub mod Signs
-- Decimal: the walk over digits, up to a limit, and which fields are words.
pub mod Decimal
