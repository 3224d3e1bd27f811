-- The bit where that of a variable stands.
use Rattle.write_sets.specs.Sets.{variable_bit}
use Rattle.write_sets.proofs.WriteSet.has_variable.Goals as goal

pub returns : goal.returns
unfolding variable_bit
returns c = c.has_bit.ensures
