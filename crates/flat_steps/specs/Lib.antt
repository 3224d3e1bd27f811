-- One line of a flat list. A line of comment for each file.

-- ---- definitions
-- Steps: what the code's answers say, and what it asks.
pub mod Steps
