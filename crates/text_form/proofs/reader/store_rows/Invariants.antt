-- `store_rows` passes the lines one by one; the invariant is `Filled`.
use Prim.Native.Nat.{◌-◌}
use lib.ListN.{length}
use Rattle.text_form.proofs.Filling.{Filled}
use Rattle.text_form.proofs.reader.store_rows.Given as goal

abbrev pub invariant-loop-at : goal.invariant-loop-at
invariant-loop-at l = Filled l.width l.text l.at l.count l.initial.table l.table

abbrev pub decreases-loop-at : goal.decreases-loop-at
decreases-loop-at l = length l.text - l.at
