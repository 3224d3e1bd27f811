-- The temporaries of the arguments, from those behind one and its own.
use Rattle.writers_calls.specs.Ranks.{rank}
use Rattle.writers_calls.proofs.arguments.+arguments_taken.Given as goal

abbrev pub decreases-arguments_taken : goal.decreases-arguments_taken
decreases-arguments_taken l = rank l.source.now.rows.now l.argument
