-- The causes that declarations add to the check. A line of comment for each file.

-- ---- definitions
-- Causes: 18, 19 and 20, and 7 for a declaration; the three in order.
pub mod Causes
-- Demands: what the request demands of declarations, as relations in its words.
pub mod Demands
