-- The table of measures. A line of comment for each file.

-- ---- definitions
-- Parts: an expression's code in parts, and what its own row brings.
pub mod Parts
-- Arguments: which arguments of a call are copied.
pub mod Arguments
-- Measures: what the table of measures holds.
pub mod Measures
-- ---- laws
-- Laws of the measures: sums that are cut off, the words of the table, an expression's measures from those of its operands.
pub mod MeasureLaws
-- An expression that is no call passes nothing.
pub mod NoCalls
