-- `remainder`: past its tests the quotient is a word.
use Rattle.arithmetic.proofs.Results.{remainder-zero, remainder-overflows, quotient-told, divide-fits, remainder_is}
use Rattle.arithmetic.proofs.remainder.Goals as goal

pub returns-then-right-eq0 : goal.returns-then-right-eq0
returns-then-right-eq0 c = let s = c.before in remainder-zero s.ranges.left s.ranges.right c.if-right-eq0.true

pub returns-then-quotient_overflows : goal.returns-then-quotient_overflows
returns-then-quotient_overflows c = let s = c.before.before.before in remainder-overflows s.ranges.left s.ranges.right c.if-right-eq0.false
    (quotient-told s.ranges.left s.ranges.right c.quotient_overflows.ensures c.if-quotient_overflows.true)

pub nonzero_rem-result : goal.nonzero_rem-result
nonzero_rem-result c = let s = c.before.before.before in divide-fits s.ranges.left s.ranges.right c.if-right-eq0.false
    (quotient-told s.ranges.left s.ranges.right c.quotient_overflows.ensures c.if-quotient_overflows.false)

pub returns : goal.returns
returns c = let s = c.before.before.before in remainder_is s.ranges.left s.ranges.right c.if-right-eq0.false
    (quotient-told s.ranges.left s.ranges.right c.quotient_overflows.ensures c.if-quotient_overflows.false)
