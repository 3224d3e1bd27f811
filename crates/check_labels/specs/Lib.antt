-- Labels and gotos of a kernel program. A line of comment for each file.

-- ---- definitions
-- Labels: cause 13, "goto without its label ahead, or label repeated".
pub mod Labels
-- Ahead: what it is for a goto's label to be ahead of it.
pub mod Ahead
-- Passes: what the code's loops for cause 13 compute.
pub mod Passes
