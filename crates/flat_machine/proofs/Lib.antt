-- What the proofs of the functions share. A line of comment for each file.
-- Running: the run of lines, one line at a time.
pub mod Running
-- Start: an accepted list gives what the machine asks.
pub mod Start
