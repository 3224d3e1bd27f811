-- What holds the arguments: the first one's rows, and then those behind it.
use Rattle.writers_calls.specs.Ranks.{rank}
use Rattle.writers_calls.proofs.calls.+put_atoms.Given as goal

abbrev pub decreases-put_atoms : goal.decreases-put_atoms
decreases-put_atoms l = rank l.source.now.rows.now l.argument
