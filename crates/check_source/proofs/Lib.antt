-- Laws of this crate's definitions. A line of comment for each file.
-- Laws of places: cause 7 is document 01's sentence on break, continue, case and default, Change 11's on declarations and Change 13's on
-- returns.
pub mod PlaceLaws
-- The theorem: the check accepts the legal source programs and no others.
pub mod AcceptsLegal
