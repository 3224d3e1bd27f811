-- The measures of a switch.
use mathlib.Core.Path.{ap, ◌∙◌}
use Prim.Native.Nat.{◌+◌, max}
use native.Mathlib.Omega.{arith}
use Rattle.measures.proofs.StatementLaws.{same-three, switch-words}
use Rattle.measures.proofs.statements.switch_measures.Goals as goal

pub measure_at-selector-requires : goal.measure_at-selector-requires
measure_at-selector-requires c = c.requires.0 0 (omega arith)

pub measure_at-tests-requires : goal.measure_at-tests-requires
measure_at-tests-requires c = c.requires.1 9 (omega arith)

pub overflow_mul-tests : goal.overflow_mul-tests
overflow_mul-tests c = omega (arith, c.measure_at-tests.ensures.small)

pub measure_at-items-requires : goal.measure_at-items-requires
measure_at-items-requires c = c.requires.1 6 (omega arith)

pub measure_at-requires : goal.measure_at-requires
measure_at-requires c = c.requires.0 1 (omega arith)

pub measure_at-requires-2 : goal.measure_at-requires-2
measure_at-requires-2 c = c.requires.1 7 (omega arith)

pub overflow_add-selector : goal.overflow_add-selector
overflow_add-selector c = omega (arith, c.measure_at-selector.ensures.small, c.measure_at-tests.ensures.small, c.measure_at-items.ensures.small)

pub overflow_add-selector-2 : goal.overflow_add-selector-2
overflow_add-selector-2 c = omega (arith, c.measure_at-selector.ensures.small, c.measure_at-tests.ensures.small, c.measure_at-items.ensures.small)

pub overflow_add-selector-3 : goal.overflow_add-selector-3
overflow_add-selector-3 c = omega (arith, c.measure_at-selector.ensures.small, c.measure_at-tests.ensures.small, c.measure_at-items.ensures.small)

pub overflow_add-taken : goal.overflow_add-taken
overflow_add-taken c = omega (arith, c.requires.2)

pub measure_at-requires-3 : goal.measure_at-requires-3
measure_at-requires-3 c = c.requires.1 8 (omega arith)

pub overflow_add-measure_at : goal.overflow_add-measure_at
overflow_add-measure_at c = omega (arith, c.measure_at-3.ensures.small)

pub returns : goal.returns
returns c = same-three c.limited.ensures (c.max.ensures ∙ ap (max (c.args.taken + 1)) c.max-levels.ensures) c.limited-2.ensures ∙ switch-words c.args.table.now c.args.taken c.args.e c.args.list c.measure_at-selector.ensures.is c.measure_at-tests.ensures.is c.measure_at-items.ensures.is c.measure_at.ensures.is c.measure_at-2.ensures.is c.measure_at-3.ensures.is
