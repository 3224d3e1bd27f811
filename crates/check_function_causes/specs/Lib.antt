-- The causes that functions add to the checks of both forms. A line of comment for each file.

-- ---- definitions
-- Functions: the definition that a number means, the function that a row stands in, how many rows a list has.
pub mod Functions
-- Causes: 23 and 24, and 7 for a return; the two in order.
pub mod Causes
-- Demands: what the request demands of functions, as relations in its words.
pub mod Demands
