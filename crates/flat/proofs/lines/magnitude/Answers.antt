-- `magnitude` goes by the distance's sign.
use Rattle.flat.proofs.Distances.{backward, forward}
use Rattle.flat.proofs.lines.magnitude.Goals as goal

pub overflow_sub-result : goal.overflow_sub-result
overflow_sub-result c =
    (backward c.ranges.distance c.if-distance-lt0.true).0

pub overflow_cast-result : goal.overflow_cast-result
overflow_cast-result c =
    (backward c.ranges.distance c.if-distance-lt0.true).1.fits

pub returns-then-distance-lt0 : goal.returns-then-distance-lt0
returns-then-distance-lt0 c =
    (backward c.ranges.distance c.if-distance-lt0.true).1.is

pub overflow_cast-result-2 : goal.overflow_cast-result-2
overflow_cast-result-2 c =
    (forward c.ranges.distance c.if-distance-lt0.false).fits

pub returns : goal.returns
returns c =
    (forward c.ranges.distance c.if-distance-lt0.false).is
