-- The legality of emitted tables. A line of comment for each file.

-- ---- definitions
-- Fields that suit their sorts.
pub mod Suits
-- Own words: the words of each function's parameters.
pub mod OwnWords
-- ---- laws
-- Trees of kernel form have the kernel's kinds.
pub mod FormKinds
-- Ranges of rows.
pub mod Ranges
-- Emitted kinds: each row has a kind of the kernel.
pub mod EmittedKinds
