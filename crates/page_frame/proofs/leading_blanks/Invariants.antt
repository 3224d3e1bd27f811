-- `leading_blanks`: from the front; the invariant is `Led`.
use Prim.Native.Nat.{◌-◌}
use native.Mathlib.Omega.{arith}
use lib.ListN.{length}
use Rattle.page_frame.proofs.Walks.{Led, led-start, led-end, led-here, led-next}
use Rattle.page_frame.proofs.leading_blanks.Given as goal

abbrev pub invariant-loop-i : goal.invariant-loop-i
invariant-loop-i l =
    Led l.text l.i

abbrev pub decreases-loop-i : goal.decreases-loop-i
decreases-loop-i l =
    length l.text - l.i
