-- The lines of a preview.
-- Changes: the lines that a preview prints.
pub mod Changes
