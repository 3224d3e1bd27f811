-- A bit of a word.
use Rattle.write_sets.specs.SetLaws.{bit-found}
use Rattle.write_sets.proofs.WriteSet.has_bit.Goals as goal

pub returns : goal.returns
returns c = bit-found c.args.self c.args.at c.word.ensures
