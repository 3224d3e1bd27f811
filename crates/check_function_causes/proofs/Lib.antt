-- Laws of this crate's definitions. A line of comment for each file.
-- Laws of the front: the definition with a number is the one at that place of the run.
pub mod FrontLaws
-- Laws of what stands in a function: the note says which.
pub mod AroundLaws
-- Laws of the lengths of lists.
pub mod LengthLaws
-- The theorem: the causes accept exactly the tables whose functions are as the request demands; so a table without functions.
pub mod AcceptsFunctions
