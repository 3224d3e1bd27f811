-- `print_columns`: both positions stay within their texts, and a turn passes a line of at least one.
use Prim.Native.Nat.{◌+◌, ◌-◌, ◌≤◌}
use lib.ListN.{length}
use Rattle.side_by_side.proofs.columns.print_columns.Given as goal

abbrev pub invariant-loop-at : goal.invariant-loop-at
invariant-loop-at g l = (l.at ≤ length l.left) × (l.beside ≤ length l.right)

abbrev pub decreases-loop-at : goal.decreases-loop-at
decreases-loop-at g l = (length l.left - l.at) + (length l.right - l.beside)
