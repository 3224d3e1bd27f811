-- `start_answer`: from a store file, or from zeros.
use Rattle.command_runs.specs.Tasks.{started_output}
use borrow.Author.Rules.{rules}
use Rattle.command_runs.proofs.tasks.start_answer.Goals as goal

pub start_stored-requires : goal.start_stored-requires
start_stored-requires c = c.requires

pub returns-then-given : goal.returns-then-given
unfolding started_output
returns-then-given c = rw c.if-given.true c.start_stored.ensures

pub start_zeros-requires : goal.start_zeros-requires
start_zeros-requires c = record { roomy = c.requires.roomy; output_room_in_bounds = c.requires.output_room_in_bounds }

pub returns : goal.returns
unfolding started_output
returns c = rw c.if-given.false c.start_zeros.ensures
