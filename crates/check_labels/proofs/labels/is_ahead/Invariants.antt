-- `is_ahead` climbs from owner to owner. The invariant: the answer for the goto is the answer for `row`.
use mathlib.Core.Path.{◌≡◌, refl, sym, ◌∙◌}
use Prim.Native.Nat.{◌<◌}
use native.Mathlib.Omega.{arith}
use Rattle.words.specs.Table.{row_count}
use Rattle.check_structure.specs.NoteLaws.{above_zero}
use Rattle.check_labels.specs.Labels.{label_ahead}
use Rattle.check_labels.proofs.LabelLaws.{around-below, ahead_step, ahead-end}
use Rattle.check_labels.proofs.labels.is_ahead.Given as goal

abbrev pub invariant-loop-row : goal.invariant-loop-row
invariant-loop-row l = (l.row < row_count l.rows) × (label_ahead l.goto l.rows l.number l.goto ≡ label_ahead l.row l.rows l.number l.row)

abbrev pub decreases-loop-row : goal.decreases-loop-row
decreases-loop-row l = l.row
