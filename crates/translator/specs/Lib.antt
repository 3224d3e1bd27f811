-- What the translation answers and writes. A line of comment for each file.

-- ---- definitions
-- Translation: the answer, and what stands in both tables after it.
pub mod Translation
-- ---- laws
-- Laws of the kernel header: V, D, T, and the source header's array lengths.
pub mod HeaderLaws
-- Laws of an accepted source program: what the measures and the writers ask of it, and how large its kernel form is.
pub mod AcceptedLaws
