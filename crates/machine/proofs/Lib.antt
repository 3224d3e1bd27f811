-- Bounds: how the list of bounds is written, and that a layout is read off its own bounds.
pub mod Bounds
-- Endings: why a run ended, and what its answer says of the run under the budget.
pub mod Endings
