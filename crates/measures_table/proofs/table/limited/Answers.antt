-- A sum, cut off.
use Rattle.measures_table.specs.Measures.{limited}
use Rattle.measures_table.proofs.table.limited.Goals as goal

pub returns : goal.returns
unfolding limited
returns c = c.min.ensures
