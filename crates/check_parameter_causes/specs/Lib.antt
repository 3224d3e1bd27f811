-- The cause 19 for parameters. A line of comment for each file.

-- ---- definitions
-- Parameters: the function in whose block's own list a row stands; 19 for a declaration there with the number of a parameter.
pub mod Parameters
-- Demands: what the request demands of them, as relations in its words.
pub mod Demands
