-- A bit of the fifth word.
use Rattle.write_sets.specs.Sets.{declared_bit}
use Rattle.write_sets.proofs.WriteSet.has_declared.Goals as goal

pub returns : goal.returns
unfolding declared_bit
returns c = c.has_bit.ensures
