-- The translation, and what is proved of it. A line of comment for each file.

-- ---- definitions
-- Uses: what becomes of the value of an expression.
pub mod Uses
-- The translation: source trees to kernel trees, a clause a kind; temporaries.
pub mod Translate
-- Sizes: the kernel rows that come of a source tree.
pub mod TranslateSize
-- Kernel form, as a predicate on trees.
pub mod KernelForm
-- Plain kernel programs: without functions.
pub mod PlainKernel
-- Copies of variables in a code, and those that the rule allows.
pub mod Copies
-- Held values: the atom that holds a waiting value, and the copy that brings it there.
pub mod Holding
-- ---- laws: preservation
-- The temporaries in use as a stack, and a store laid out with them.
pub mod Stack
-- A computation run with what follows it.
pub mod RunThen
-- When a source run and a kernel run go alike.
pub mod Related

-- ---- laws: labels and bounds
-- ---- laws: no needless copy
-- ---- laws: examples
