-- The lines of the command.
-- Lines: the lines that the command prints.
pub mod Lines
