-- `is_true` tests the bits of a word.
use Rattle.arithmetic.proofs.Results.{true-bits}
use Rattle.arithmetic.proofs.is_true.Goals as goal

pub returns : goal.returns
returns c = true-bits c.ranges.value
