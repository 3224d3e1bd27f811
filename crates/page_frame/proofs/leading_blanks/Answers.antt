-- `leading_blanks`: from the front; the invariant is `Led`.
use Prim.Native.Nat.{◌-◌}
use native.Mathlib.Omega.{arith}
use lib.ListN.{length}
use Rattle.page_frame.proofs.Walks.{Led, led-start, led-end, led-here, led-next}
use Rattle.page_frame.proofs.leading_blanks.Goals as goal

pub loop-i-init : goal.loop-i-init
loop-i-init c =
    led-start _

pub bounds-text-i : goal.bounds-text-i
bounds-text-i c =
    c.loop-i-test.true

pub returns-then-text-i-ne32 : goal.returns-then-text-i-ne32
returns-then-text-i-ne32 c =
    led-here c.loop-i.invariant c.loop-i-test.true c.if-text-i-ne32.true

pub overflow_add-i : goal.overflow_add-i
overflow_add-i c =
    omega (arith, c.loop-i-test.true)

pub loop-i-smaller : goal.loop-i-smaller
loop-i-smaller c =
    omega (arith, c.loop-i-test.true)

pub loop-i-preserved : goal.loop-i-preserved
loop-i-preserved c =
    led-next c.loop-i.invariant c.loop-i-test.true c.if-text-i-ne32.false

pub returns : goal.returns
returns c =
    led-end c.loop-i.invariant c.loop-i-test.false
