-- `print_columns`: both positions stay within their texts, and a turn passes a line of at least one.
use Prim.Native.Nat.{◌+◌, ◌-◌, ◌≤◌}
use native.Mathlib.Omega.{arith}
use lib.ListN.{length}
use borrow.Author.Rules.{rules}
use Rattle.side_by_side.proofs.columns.print_columns.Goals as goal
use Rattle.side_by_side.proofs.columns.print_columns.Goals.{then-at-left, else-at-left+then-beside-right}

pub loop-at-smaller : goal.loop-at-smaller
loop-at-smaller g c =
    let first = c.in_ok-at.ensures in
    let second = c.in_ok-beside.ensures in
    elim c.if-at-left.branch [
      | then-at-left w ↦ omega (arith, first.lower_bound_2 w.if-at-left.true, w.if-at-left.true, second.lower_bound.0)
      | else-at-left+then-beside-right w ↦ omega (arith, first.lower_bound.0, second.lower_bound_2 w.if-beside-right.true, w.if-beside-right.true)
    ]
