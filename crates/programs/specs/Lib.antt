-- What the program's functions hand to each other. A line of comment for each file.

-- ---- definitions
-- Cases: where a case stands in the input.
pub mod Cases
