-- The number of arguments, from those behind one.
use Rattle.writers_calls.specs.Ranks.{rank}
use Rattle.writers_calls.proofs.arguments.+argument_count.Given as goal

abbrev pub decreases-argument_count : goal.decreases-argument_count
decreases-argument_count l = rank l.rows.now l.argument
