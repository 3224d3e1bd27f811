-- `lowest_of_number` follows the chain. The invariant: `lowest` is the lowest row found among the rows with smaller numbers, and
-- those with this number before `row`.
use mathlib.Core.Path.{◌≡◌, refl, sym, ◌∙◌}
use Prim.Native.Nat.{◌+◌, ◌-◌, ◌<◌}
use native.Mathlib.Omega.{arith}
use Rattle.words.specs.Table.{row_count}
use Rattle.words.specs.Search.{some}
use Rattle.check_labels.specs.Labels.{is_label, label_fault}
use Rattle.check_labels.specs.Passes.{Jump, NextJump, LowestAmong, Passed}
use Rattle.check_labels.proofs.Faults.{seen_skip, lowest_start, lowest-skip, lowest-row, lowest-end}
use Rattle.check_labels.proofs.labels.lowest_of_number.Given as goal

abbrev pub invariant-loop-row : goal.invariant-loop-row
invariant-loop-row l =
    (l.count ≡ row_count l.rows) × (l.row < row_count l.rows → Jump l.rows l.number l.row) × (l.row < row_count l.rows → l.seen ≡ some (is_label l.rows l.number) 0 l.row)
    × LowestAmong l.rows (Passed l.rows l.number l.row) (label_fault l.rows) l.lowest

abbrev pub decreases-loop-row : goal.decreases-loop-row
decreases-loop-row l = l.count - l.row
