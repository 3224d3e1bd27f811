-- Demands 2 and 3, and Changes 9 and 14, about rows and words. A line of comment for each file.

-- ---- definitions
-- Fate: what it is for two programs to share their fate.
pub mod Fate
-- Rules that never end: what it is for two programs to make the same writes.
pub mod SameWrites
-- Views: what the dispatcher and the maintainer are shown of a kernel run.
pub mod Views
-- Kernel forms: the kernel header and rows of a source program, and what holds of them.
pub mod KernelForms
-- ---- laws
-- Declared words: a source run does not hang on what they held at the start.
pub mod DeclaredWords
-- Parameter words: the parameters of a source program's functions have words of their own.
pub mod ParameterWords
