-- The rows of a tree. A line of comment for each file.

-- ---- definitions
-- Emission: the words of a tree's rows, each part written from the first free row onward.
pub mod Emission
-- Trees of the kernel's kinds.
pub mod KernelKinds
-- Emitted trees: where the rows of a tree stand in a table.
pub mod Emitted
-- ---- laws
-- Laws of emission: lengths, and one part behind another.
pub mod EmissionLaws
