-- The measures of a loop.
use mathlib.Core.Path.{ap₂, ◌∙◌}
use Prim.Native.Nat.{max}
use native.Mathlib.Omega.{arith}
use Rattle.measures_table.specs.Measures.{dropped_rows_slot, dropped_levels_slot}
use Rattle.measures.proofs.StatementLaws.{same-three, loop-words}
use Rattle.measures.proofs.statements.loop_measures.Goals as goal

pub measure_at-requires : goal.measure_at-requires
measure_at-requires c = c.requires.0 dropped_rows_slot (omega arith)

pub test_rows-requires : goal.test_rows-requires
test_rows-requires c = c.requires.1

pub overflow_add-before : goal.overflow_add-before
overflow_add-before c = omega (arith, c.measure_at.ensures.small, c.test_rows.ensures.small)

pub measure_at-requires-2 : goal.measure_at-requires-2
measure_at-requires-2 c = c.requires.2 dropped_rows_slot (omega arith)

pub measure_at-requires-3 : goal.measure_at-requires-3
measure_at-requires-3 c = c.requires.3 3 (omega arith)

pub overflow_add-round : goal.overflow_add-round
overflow_add-round c = omega (arith, c.measure_at-2.ensures.small, c.measure_at-3.ensures.small)

pub measure_at-requires-4 : goal.measure_at-requires-4
measure_at-requires-4 c = c.requires.0 dropped_levels_slot (omega arith)

pub measure_at-requires-5 : goal.measure_at-requires-5
measure_at-requires-5 c = c.requires.1 1 (omega arith)

pub measure_at-requires-6 : goal.measure_at-requires-6
measure_at-requires-6 c = c.requires.2 dropped_levels_slot (omega arith)

pub measure_at-requires-7 : goal.measure_at-requires-7
measure_at-requires-7 c = c.requires.3 4 (omega arith)

pub overflow_add-before-2 : goal.overflow_add-before-2
overflow_add-before-2 c = omega (arith, c.measure_at.ensures.small, c.test_rows.ensures.small, c.measure_at-2.ensures.small, c.measure_at-3.ensures.small)

pub overflow_add-before-3 : goal.overflow_add-before-3
overflow_add-before-3 c = omega (arith, c.measure_at.ensures.small, c.test_rows.ensures.small, c.measure_at-2.ensures.small, c.measure_at-3.ensures.small)

pub measure_at-requires-8 : goal.measure_at-requires-8
measure_at-requires-8 c = c.requires.3 5 (omega arith)

pub overflow_add-measure_at : goal.overflow_add-measure_at
overflow_add-measure_at c = omega (arith, c.measure_at-8.ensures.small)

pub returns : goal.returns
returns c = same-three c.limited.ensures (c.max.ensures ∙ ap₂ max c.max-outer.ensures c.max-inner.ensures) c.limited-2.ensures ∙ loop-words c.args.table.now c.args.first c.args.test c.args.step c.args.body c.measure_at.ensures.is c.test_rows.ensures.is c.measure_at-2.ensures.is c.measure_at-3.ensures.is c.measure_at-4.ensures.is c.measure_at-5.ensures.is c.measure_at-6.ensures.is c.measure_at-7.ensures.is c.measure_at-8.ensures.is
