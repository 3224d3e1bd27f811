-- `sum_of` sums the lengths in order. The invariant: with those to come, the sum is that of all lengths. The measure is the
-- number to come.
use native.Mathlib.Omega.{arith}
use Rattle.words.proofs.Lengths.{Read, sum-rest, sum-end}
use Rattle.words.proofs.layout.sum_of.Goals as goal
use Rattle.words.proofs.layout.sum_of.Goals.{After-natural-total}

read : (c : After-natural-total) → Read c.args.lengths.now c.loop-length.length-index c.natural-total.result
read c =
    record { below = c.loop-length-test.true; word = c.natural-arg-1.given; is = c.natural-total.ensures }

pub loop-length-init : goal.loop-length-init
loop-length-init c = omega arith

pub overflow_add-total : goal.overflow_add-total
overflow_add-total c = omega (arith, sum-rest (read c))

pub loop-length-preserved : goal.loop-length-preserved
loop-length-preserved c = omega (arith, sum-rest (read c))

pub returns : goal.returns
returns c = omega (arith, sum-end c.args.lengths.now c.loop-length.length-index c.loop-length-test.false)
