-- The measures of an if.
use mathlib.Core.Path.{ap, ◌∙◌}
use Prim.Native.Nat.{max}
use native.Mathlib.Omega.{arith}
use Rattle.measures.proofs.StatementLaws.{same-three, if-words}
use Rattle.measures.proofs.statements.if_measures.Goals as goal

pub measure_at-test-requires : goal.measure_at-test-requires
measure_at-test-requires c = c.requires.0 0 (omega arith)

pub measure_at-onward-requires : goal.measure_at-onward-requires
measure_at-onward-requires c = c.requires.1 3 (omega arith)

pub measure_at-other-requires : goal.measure_at-other-requires
measure_at-other-requires c = c.requires.2 3 (omega arith)

pub measure_at-requires : goal.measure_at-requires
measure_at-requires c = c.requires.1 4 (omega arith)

pub measure_at-requires-2 : goal.measure_at-requires-2
measure_at-requires-2 c = c.requires.2 4 (omega arith)

pub measure_at-labels-requires : goal.measure_at-labels-requires
measure_at-labels-requires c = c.requires.1 5 (omega arith)

pub overflow_add-test : goal.overflow_add-test
overflow_add-test c = omega (arith, c.measure_at-test.ensures.small, c.measure_at-onward.ensures.small, c.measure_at-other.ensures.small)

pub overflow_add-test-2 : goal.overflow_add-test-2
overflow_add-test-2 c = omega (arith, c.measure_at-test.ensures.small, c.measure_at-onward.ensures.small, c.measure_at-other.ensures.small)

pub overflow_add-test-3 : goal.overflow_add-test-3
overflow_add-test-3 c = omega (arith, c.measure_at-test.ensures.small, c.measure_at-onward.ensures.small, c.measure_at-other.ensures.small)

pub measure_at-requires-3 : goal.measure_at-requires-3
measure_at-requires-3 c = c.requires.0 1 (omega arith)

pub measure_at-requires-4 : goal.measure_at-requires-4
measure_at-requires-4 c = c.requires.2 5 (omega arith)

pub overflow_add-labels : goal.overflow_add-labels
overflow_add-labels c = omega (arith, c.measure_at-labels.ensures.small, c.measure_at-4.ensures.small)

pub returns : goal.returns
returns c = same-three c.limited.ensures (c.max.ensures ∙ ap (max c.measure_at-3.result) c.max-levels.ensures) c.limited-2.ensures ∙ if-words c.args.table.now c.args.e c.args.yes c.args.no c.measure_at-test.ensures.is c.measure_at-onward.ensures.is c.measure_at-other.ensures.is c.measure_at-3.ensures.is c.measure_at.ensures.is c.measure_at-2.ensures.is c.measure_at-labels.ensures.is c.measure_at-4.ensures.is
