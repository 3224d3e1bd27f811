-- `minus`: only the least word has a negation that is no word.
use Rattle.arithmetic.proofs.Results.{minus-least, minus-fits, minus_is}
use Rattle.arithmetic.proofs.minus.Goals as goal

pub returns-then-value-eqminus2147483648 : goal.returns-then-value-eqminus2147483648
returns-then-value-eqminus2147483648 c = let s = c.before in minus-least s.ranges.value c.if-value-eqminus2147483648.true

pub overflow_sub-result : goal.overflow_sub-result
overflow_sub-result c = let s = c.before in minus-fits s.ranges.value c.if-value-eqminus2147483648.false

pub returns : goal.returns
returns c = let s = c.before in minus_is s.ranges.value c.if-value-eqminus2147483648.false
