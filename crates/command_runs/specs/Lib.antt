-- What the runs print. A line of comment for each file.

-- ---- definitions
-- Tasks: what a run, a preview and a dispatcher's run print.
pub mod Tasks
-- ---- laws
-- PreviewLaws: a preview's lines tell the answer of the run that they are about.
pub mod PreviewLaws
