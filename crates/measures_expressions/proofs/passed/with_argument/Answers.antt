-- An argument before others, as the code puts it together.
use native.Mathlib.Omega.{arith}
use Rattle.measures_expressions.proofs.PassedLaws.{digits-fit, passed_words}
use Rattle.measures_expressions.proofs.passed.with_argument.Goals as goal

pub measure_at-requires : goal.measure_at-requires
measure_at-requires c = c.requires.0 1 (omega arith)

pub measure_at-requires-2 : goal.measure_at-requires-2
measure_at-requires-2 c = c.requires.0 0 (omega arith)

pub overflow_mul-result : goal.overflow_mul-result
overflow_mul-result c = omega (arith, digits-fit _ _ c.requires.3.few c.requires.3.copies_small)

pub overflow_add-result-3 : goal.overflow_add-result-3
overflow_add-result-3 c = omega (arith, digits-fit _ _ c.requires.3.few c.requires.3.copies_small, c.requires.2)

pub returns : goal.returns
returns c = passed_words c.args.table.now c.args.e c.args.taken c.args.copied c.args.behind c.measure_at-2.ensures.is c.measure_at.ensures.is c.max-own.ensures c.max.ensures c.limited.ensures c.limited-2.ensures
