-- Laws of this crate's definitions. A line of comment for each file.
-- Laws of previews: the tally, and that a preview tells the run.
pub mod PreviewLaws
