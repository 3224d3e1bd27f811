-- `filled_size`: from the end; the invariant is `Kept`.
use Prim.Native.Nat.{◌-◌}
use native.Mathlib.Omega.{arith}
use lib.ListN.{length}
use Rattle.page_frame.proofs.Walks.{Kept, kept-start, kept-end, kept_here, kept_next}
use Rattle.page_frame.proofs.filled_size.Given as goal

abbrev pub invariant-loop-end : goal.invariant-loop-end
invariant-loop-end l =
    Kept l.text l.end

abbrev pub decreases-loop-end : goal.decreases-loop-end
decreases-loop-end l =
    l.end
