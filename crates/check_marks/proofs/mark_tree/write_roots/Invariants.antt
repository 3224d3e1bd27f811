-- `write_roots` goes over the rows in order. The invariant: the roots of the rows passed are written.
use mathlib.Core.Path.{◌≡◌, refl}
use Prim.Native.Nat.{◌≤◌, ◌<◌, ◌-◌}
use native.Mathlib.Omega.{arith}
use lib.ListN.{length, length-set}
use Rattle.words.specs.Table.{row_count}
use Rattle.check_items.proofs.EarlierLaws.{earlier-inside}
use Rattle.check_marks.specs.MarkTree.{Roots}
use Rattle.check_marks.specs.MarkTreeLaws.{roots-start, roots-next}
use Rattle.check_marks.proofs.mark_tree.write_roots.Given as goal

abbrev pub invariant-loop-row : goal.invariant-loop-row
invariant-loop-row l =
    (l.row ≤ row_count l.rows) × (length l.roots ≡ length l.initial.roots) × Roots l.rows l.row l.roots

abbrev pub decreases-loop-row : goal.decreases-loop-row
decreases-loop-row l =
    row_count l.rows - l.row
