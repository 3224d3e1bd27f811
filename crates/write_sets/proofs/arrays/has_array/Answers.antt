-- `write_sets::arrays::has_array` meets its contract.
use Rattle.write_sets.specs.SetLaws.{array-shift}
use Rattle.write_sets.proofs.arrays.has_array.Goals as goal

pub returns : goal.returns
returns c = array-shift c.args.arrays c.args.array
