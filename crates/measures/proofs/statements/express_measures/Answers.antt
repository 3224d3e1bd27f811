-- The measures of an expression statement.
use mathlib.Core.Path.{◌≡◌, refl, ap, ◌∙◌}
use Prim.Native.Nat.{max}
use native.Mathlib.Omega.{arith}
use Rattle.measures_table.specs.Measures.{dropped_rows_slot, dropped_levels_slot}
use Rattle.measures.proofs.StatementLaws.{same-three}
use Rattle.measures.proofs.statements.express_measures.Goals as goal

pub measure_at-requires : goal.measure_at-requires
measure_at-requires c = c.requires dropped_rows_slot (omega arith)

pub measure_at-requires-2 : goal.measure_at-requires-2
measure_at-requires-2 c = c.requires dropped_levels_slot (omega arith)

pub returns : goal.returns
returns c = same-three (c.max.ensures ∙ (let turned : max c.measure_at.result 1 ≡ max 1 c.measure_at.result = omega arith in turned) ∙ ap (max 1) c.measure_at.ensures.is) c.measure_at-2.ensures.is refl
