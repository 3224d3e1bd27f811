-- `quotient_overflows`: its two tests single out the one quotient that is no word.
use Rattle.arithmetic.proofs.Results.{overflows-by-minus-one, overflows-not}
use Rattle.arithmetic.proofs.quotient_overflows.Goals as goal

pub returns-then-left-eqminus2147483648 : goal.returns-then-left-eqminus2147483648
returns-then-left-eqminus2147483648 c = let s = c.before in overflows-by-minus-one s.ranges.left s.ranges.right c.if-left-eqminus2147483648.true

pub returns : goal.returns
returns c = let s = c.before in overflows-not s.ranges.left s.ranges.right c.if-left-eqminus2147483648.false
