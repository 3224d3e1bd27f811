-- Flattening. A line of comment for each file.

-- ---- definitions
-- Flattening: the answer, what stands in the output after it, and what the words written have to be.
pub mod Flattening
