-- `lands_inside` tests how far the distance goes, by its sign.
use native.Mathlib.Omega.{arith}
use Rattle.flat_check.proofs.Landing.{far-small, lands-back, lands-onward}
use borrow.Author.Rules.{rules}
use Rattle.flat_check.proofs.causes.lands_inside.Goals as goal

pub returns-then-distance-lt0 : goal.returns-then-distance-lt0
returns-then-distance-lt0 c =
    lands-back c.args.line _ c.args.distance c.ranges.distance c.if-distance-lt0.true c.magnitude-far.result c.magnitude-far.ensures

pub overflow_add-result-2 : goal.overflow_add-result-2
overflow_add-result-2 c =
    omega (arith, far-small c.args.distance c.ranges.distance c.magnitude-far.result c.magnitude-far.ensures)

pub returns : goal.returns
returns c =
    lands-onward c.args.line _ c.args.distance c.ranges.distance c.if-distance-lt0.false c.magnitude-far.result c.magnitude-far.ensures
