-- `narrow` tests the two ends of the words.
use Rattle.arithmetic.proofs.Results.{narrow_below, narrow-above, narrow-fits, narrow-is}
use Rattle.arithmetic.proofs.narrow.Goals as goal

pub returns-then-res-ltminus2147483648 : goal.returns-then-res-ltminus2147483648
returns-then-res-ltminus2147483648 c = let s = c.before in narrow_below s.ranges.res c.if-res-ltminus2147483648.true

pub returns-then-res-gt2147483647 : goal.returns-then-res-gt2147483647
returns-then-res-gt2147483647 c = let s = c.before.before in narrow-above s.ranges.res c.if-res-gt2147483647.true

pub overflow_cast-result : goal.overflow_cast-result
overflow_cast-result c = let s = c.before.before in narrow-fits s.ranges.res c.if-res-ltminus2147483648.false c.if-res-gt2147483647.false

pub returns : goal.returns
returns c = let s = c.before.before in narrow-is s.ranges.res c.if-res-ltminus2147483648.false c.if-res-gt2147483647.false
