-- The flat list of a kernel program, and that it goes as the program does. A line of comment for each file.

-- ---- definitions
-- Code: the lines of a kernel tree, and how many they are.
pub mod Code
-- Stands: that the lines of a statement stand in a list.
pub mod Stands
-- Branches: the line at which the parts of an if and the body of a while begin.
pub mod Branches
-- Addresses: the line of each label, and the flat list of a tree.
pub mod Addresses
-- Flat words: the list as a table of words, and what it is for two programs to share their fate.
pub mod FlatWords
-- ---- laws
-- Follows: the flat run goes where the kernel's goes.
pub mod Follows
-- Equal fate, of a program whose lines stand in a list.
pub mod FlatFate
