-- `filled_size`: from the end; the invariant is `Kept`.
use Prim.Native.Nat.{◌-◌}
use native.Mathlib.Omega.{arith}
use lib.ListN.{length}
use Rattle.page_frame.proofs.Walks.{Kept, kept-start, kept-end, kept_here, kept_next}
use Rattle.page_frame.proofs.filled_size.Goals as goal

pub loop-end-init : goal.loop-end-init
loop-end-init c =
    kept-start _

pub overflow_sub-end : goal.overflow_sub-end
overflow_sub-end c =
    omega (arith, c.loop-end-test.true)

pub bounds-text-end : goal.bounds-text-end
bounds-text-end c =
    omega (arith, c.loop-end-test.true, c.loop-end.invariant.inside)

pub returns-then-text-end-ne32 : goal.returns-then-text-end-ne32
returns-then-text-end-ne32 c =
    kept_here c.loop-end.invariant c.loop-end-test.true c.if-text-end-ne32.true

pub overflow_sub-end-in-loop-end : goal.overflow_sub-end-in-loop-end
overflow_sub-end-in-loop-end c =
    omega (arith, c.loop-end-test.true)

pub loop-end-smaller : goal.loop-end-smaller
loop-end-smaller c =
    omega (arith, c.loop-end-test.true)

pub loop-end-preserved : goal.loop-end-preserved
loop-end-preserved c =
    kept_next c.loop-end.invariant c.loop-end-test.true c.if-text-end-ne32.false

pub returns : goal.returns
returns c =
    kept-end c.loop-end.invariant c.loop-end-test.false
