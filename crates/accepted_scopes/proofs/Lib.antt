-- Laws of this crate's definitions. A line of comment for each file.
-- Scoped programs: every name in the tree of a resolved table is known where it stands.
pub mod Scoped
-- Scoped functions: every name in a function's block is known where it stands.
pub mod Functions
-- Independence: a resolved source program runs alike from stores that agree on the first S words.
pub mod Independent
-- Legal source programs: both of them.
pub mod Accepted
