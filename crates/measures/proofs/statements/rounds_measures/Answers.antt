-- The measures of a guarded do, by whether it has arms.
use mathlib.Core.Path.{◌∙◌}
use native.Mathlib.Omega.{arith}
use Rattle.measures_table.specs.Measures.{arms_rows_slot, slot_at}
use Rattle.measures.proofs.StatementLaws.{around-none, around-some}
use Rattle.measures.proofs.statements.rounds_measures.Goals as goal

pub measure_at-requires : goal.measure_at-requires
measure_at-requires c = c.requires arms_rows_slot (omega arith)

pub returns-then-measure_at-eq0 : goal.returns-then-measure_at-eq0
returns-then-measure_at-eq0 c = c.plain_measures.ensures ∙ around-none (slot_at c.args.table.now c.args.arms arms_rows_slot) _ (omega (arith, c.measure_at.ensures.is))

pub returns : goal.returns
returns c = c.guarded_measures.ensures ∙ around-some (slot_at c.args.table.now c.args.arms arms_rows_slot) _ (omega (arith, c.measure_at.ensures.is))
