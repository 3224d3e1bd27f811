-- `mark_links` takes the rows in order. The invariant: the links of the rows passed are marked.
use mathlib.Core.Path.{◌≡◌, refl, ◌∙◌}
use Prim.Native.Nat.{◌+◌, ◌*◌, ◌≤◌, ◌-◌}
use native.Mathlib.Omega.{arith}
use lib.ListN.{length}
use borrow.Author.Rules.{rules}
use Rattle.words.specs.Table.{row_count}
use Rattle.check_structure.specs.Passes.{Marked}
use Rattle.check_structure.proofs.Marks.{marked_next}
use Rattle.check_structure.proofs.links.mark_links.Given as goal

abbrev pub invariant-loop-row : goal.invariant-loop-row
invariant-loop-row l =
    (l.row ≤ l.count) × (l.count ≡ row_count l.rows) × (length l.marks ≡ length l.initial.marks) × Marked l.rows (6 * l.row) l.marks

abbrev pub decreases-loop-row : goal.decreases-loop-row
decreases-loop-row l =
    l.count - l.row
