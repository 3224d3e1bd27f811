-- `count_rows` passes the lines one by one; the invariant is `Walked`.
use Prim.Native.Nat.{◌-◌}
use lib.ListN.{length}
use Rattle.text_form.proofs.Rows.{Walked}
use Rattle.text_form.proofs.reader.count_rows.Given as goal

abbrev pub invariant-loop-at : goal.invariant-loop-at
invariant-loop-at l = Walked l.width l.text l.at l.count

abbrev pub decreases-loop-at : goal.decreases-loop-at
decreases-loop-at l = length l.text - l.at
