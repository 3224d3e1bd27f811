-- Laws of this crate's definitions. A line of comment for each file.
-- Laws of acceptance: the checks' answers keep the second promise.
pub mod AcceptanceLaws
-- Laws of accepted programs, of both forms.
pub mod AcceptedLaws
