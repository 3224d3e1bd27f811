-- The functions of a program and what each can write. A line of comment for each file.

-- ---- definitions
-- Definitions: the definitions at the front of a program's list, and the parameters of a definition.
pub mod Definitions
-- Walks: what a walk asks, and what the functions below a number can write.
pub mod Walks
-- Steps: what a statement's own row writes, and the links at which more is written.
pub mod Steps
