-- The ones of five words.
use Rattle.std.proofs.Common.{rules}
use Rattle.write_sets.specs.Counts.{ones-members}
use Rattle.write_sets.proofs.WriteSet.count.Goals as goal

pub returns : goal.returns
returns c = ones-members c.args.self (search rules) (search rules) (search rules) (search rules) (search rules)
