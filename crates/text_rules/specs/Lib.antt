-- The text of one rule. A line of comment for each file.

-- ---- definitions
-- Rules: the trial program's limits, and what a rule's text gives.
pub mod Rules
-- ---- laws
-- Laws of rules: the store of an accepted rule has room.
pub mod RuleLaws
