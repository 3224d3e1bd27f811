-- `count_lines` walks the lines; the invariant is `Counted`.
use native.Mathlib.Omega.{arith}
use Prim.Native.Nat.{◌-◌}
use lib.ListN.{length}
use Rattle.text_lines.proofs.Pieces.{piece_of}
use Rattle.day_form.proofs.Bounds.{Counted, counted_start, counted-end, counted_next}
use Rattle.day_form.proofs.input.count_lines.Given as goal

abbrev pub invariant-loop-at : goal.invariant-loop-at
invariant-loop-at l =
    Counted l.text l.at l.count

abbrev pub decreases-loop-at : goal.decreases-loop-at
decreases-loop-at l =
    length l.text - l.at
