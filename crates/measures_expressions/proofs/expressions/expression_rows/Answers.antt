-- The rows of an expression: those of its operands and its own.
use mathlib.Core.Path.{◌∙◌}
use native.Mathlib.Omega.{arith}
use Rattle.language.specs.Decode.{expression_at}
use Rattle.measures_table.specs.Parts.{called_in}
use Rattle.measures_table.specs.Measures.{rows_slot}
use Rattle.measures_table.specs.MeasureLaws.{slot-asks}
use Rattle.measures_expressions.proofs.ExpressionLaws.{rows-of, own-most, own-rows-by}
use Rattle.measures_expressions.proofs.expressions.expression_rows.Goals as goal

pub measure_at-first-requires : goal.measure_at-first-requires
measure_at-first-requires c =
    slot-asks c.requires.0 c.requires.2.first.onward _ c.rows_for.ensures.inside

pub measure_at-second-requires : goal.measure_at-second-requires
measure_at-second-requires c =
    slot-asks c.requires.0 c.requires.2.second.onward _ c.rows_for-2.ensures.inside

pub measure_at-third-requires : goal.measure_at-third-requires
measure_at-third-requires c =
    slot-asks c.requires.0 c.requires.2.third.onward rows_slot (omega arith)

pub measure_at-fourth-requires : goal.measure_at-fourth-requires
measure_at-fourth-requires c =
    slot-asks c.requires.0 c.requires.2.fourth.onward rows_slot (omega arith)

pub overflow_add-first-4 : goal.overflow_add-first-4
overflow_add-first-4 c =
    omega (arith, c.measure_at-first.ensures.small, c.measure_at-second.ensures.small, c.measure_at-third.ensures.small, c.measure_at-fourth.ensures.small, c.rows_by.ensures, own-rows-by c.requires.2 c.args.usage, own-most (called_in c.args.rows.now) (expression_at c.args.rows.now c.args.row) c.args.usage c.requires.3)

pub returns : goal.returns
returns c =
    c.limited.ensures ∙ rows-of _ _ _ c.requires.0 _ c.requires.2 c.args.usage _ _ _ _ _ _ _ c.requires.3 c.second_use-second_use.ensures c.rows_for.ensures c.rows_for-2.ensures c.measure_at-first.ensures.is c.measure_at-second.ensures.is c.measure_at-third.ensures.is c.measure_at-fourth.ensures.is c.rows_by.ensures
