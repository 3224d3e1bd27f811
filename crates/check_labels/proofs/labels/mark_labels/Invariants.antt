-- `mark_labels` follows the chain. The invariant: the labels with the number before `row` have marked their lists.
use mathlib.Core.Path.{◌≡◌, refl, ◌∙◌}
use Prim.Native.Nat.{◌<◌, ◌+◌, ◌-◌}
use native.Mathlib.Omega.{arith}
use lib.ListN.{length}
use Rattle.words.specs.Table.{row_count}
use Rattle.check_labels.specs.Passes.{Jump, NextJump, Marked}
use Rattle.check_labels.proofs.Marking.{marked_start, marked-skip, marked_all}
use Rattle.check_labels.proofs.labels.mark_labels.Given as goal

abbrev pub invariant-loop-row : goal.invariant-loop-row
invariant-loop-row l =
    (l.count ≡ row_count l.rows) × Marked l.rows l.number l.row l.marks × (l.row < row_count l.rows → Jump l.rows l.number l.row) × (length l.marks ≡ length l.initial.marks)

abbrev pub decreases-loop-row : goal.decreases-loop-row
decreases-loop-row l = l.count - l.row
