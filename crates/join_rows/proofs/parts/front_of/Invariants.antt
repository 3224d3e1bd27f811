-- `front_of`: the invariant is that the walk has come so far along the front (`Going`).
use Prim.Native.Nat.{◌-◌}
use Rattle.words.specs.Table.{row_count}
use Rattle.join_rows.specs.StandingLaws.{Going}
use Rattle.join_rows.proofs.parts.front_of.Given as goal

abbrev pub invariant-loop-functions : goal.invariant-loop-functions
invariant-loop-functions l =
    Going l.rows l.functions l.item

abbrev pub decreases-loop-functions : goal.decreases-loop-functions
decreases-loop-functions l =
    row_count l.rows - l.functions
