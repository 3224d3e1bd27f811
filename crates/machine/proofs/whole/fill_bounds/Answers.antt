-- `fill_bounds` writes the bounds in order. The invariant: what is written, and the bounds of the lengths to come, are all bounds.
use mathlib.Core.Path.{◌≡◌}
use native.Mathlib.Omega.{arith}
use lib.ListN.{length}
use Rattle.words.proofs.Lengths.{Read, sum-rest}
use Rattle.machine.proofs.Bounds.{filled_next, filled-all}
use Rattle.machine.proofs.whole.fill_bounds.Goals as goal
use Rattle.machine.proofs.whole.fill_bounds.Goals.{After-natural-total}

read : (c : After-natural-total) → Read c.args.lengths.now c.loop-i.i c.natural-total.result
read c = record { below = c.loop-i-test.true; word = c.natural-arg-1.given; is = c.natural-total.ensures }

pub overflow_add-total : goal.overflow_add-total
overflow_add-total c = omega (arith, sum-rest (read c), c.loop-i.invariant.total_is, c.requires.1)

pub loop-i-preserved : goal.loop-i-preserved
loop-i-preserved c = filled_next c.loop-i.invariant (read c)

pub returns : goal.returns
returns c =
    let e : length c.args.lengths.now ≡ c.loop-i.i = omega (arith, c.loop-i.invariant.most, c.loop-i-test.false) in
    rw e (filled-all c.loop-i.invariant c.loop-i-test.false)
