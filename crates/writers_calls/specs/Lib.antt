-- What the writers of calls write. A line of comment for each file.

-- ---- definitions
-- Arguments: the code of a call's arguments, by which of them are copied.
pub mod Arguments
-- Ranks: the rows from a row on, by which the writers along links end.
pub mod Ranks
-- Asks: what the writers of calls ask of their caller, and what they find of arguments.
pub mod Asks
-- ---- laws
-- Laws of arguments: the code by the copies is the translation's.
pub mod ArgumentLaws
-- Laws of the code of arguments by the copies: its rows and its levels.
pub mod CallCode
