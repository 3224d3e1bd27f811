-- The levels of an expression: those of its operands and its own.
use mathlib.Core.Path.{ap, ap₂, ◌∙◌}
use Prim.Native.Nat.{max}
use native.Mathlib.Omega.{arith}
use Rattle.language.specs.Decode.{expression_at}
use Rattle.measures_table.specs.Parts.{called_in}
use Rattle.measures_table.specs.Measures.{limited, levels_slot}
use Rattle.measures_table.specs.MeasureLaws.{slot-asks}
use Rattle.measures_expressions.proofs.ExpressionLaws.{levels-of, above_most}
use Rattle.measures_expressions.proofs.expressions.expression_levels.Goals as goal

pub measure_at-first-requires : goal.measure_at-first-requires
measure_at-first-requires c =
    slot-asks c.requires.0 c.requires.2.first.onward _ c.levels_for.ensures.inside

pub measure_at-requires : goal.measure_at-requires
measure_at-requires c =
    slot-asks c.requires.0 c.requires.2.second.onward _ c.levels_for-2.ensures.inside

pub overflow_add-second : goal.overflow_add-second
overflow_add-second c =
    omega (arith, c.measure_at.ensures.small, c.requires.2.above-is, above_most (called_in c.args.rows.now) (expression_at c.args.rows.now c.args.row))

pub measure_at-third-requires : goal.measure_at-third-requires
measure_at-third-requires c =
    slot-asks c.requires.0 c.requires.2.third.onward levels_slot (omega arith)

pub measure_at-fourth-requires : goal.measure_at-fourth-requires
measure_at-fourth-requires c =
    slot-asks c.requires.0 c.requires.2.fourth.onward levels_slot (omega arith)

pub returns : goal.returns
returns c =
    c.limited.ensures ∙ ap limited (c.max-4.ensures ∙ ap (max _) (c.max-3.ensures ∙ ap₂ max c.max.ensures c.max-2.ensures)) ∙ levels-of _ _ _ c.requires.0 _ c.requires.2 c.args.usage _ _ _ _ _ _ _ _ c.second_use-second_use.ensures c.levels_for.ensures c.levels_for-2.ensures c.measure_at-first.ensures.is c.measure_at.ensures.is c.measure_at-third.ensures.is c.measure_at-fourth.ensures.is c.levels_by.ensures c.requires.2.above-is
