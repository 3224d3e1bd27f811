-- Previews. A line of comment for each file.

-- ---- definitions
-- Previews: the answer of preview, and what it leaves in the store and in the scratch.
pub mod Previews
