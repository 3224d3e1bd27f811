-- The measure is the rows that are left.
use Rattle.writers_calls.specs.Ranks.{rank}
use Rattle.writers_programs.proofs.parameters.+put_parameters.Given as goal

abbrev pub decreases-put_parameters : goal.decreases-put_parameters
decreases-put_parameters l = rank l.rows.now l.parameter
