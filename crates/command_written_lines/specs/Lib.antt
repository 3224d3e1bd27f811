-- The lines that tell what a program can write. A line of comment for each file.
-- Lines: their bytes.
pub mod Lines
