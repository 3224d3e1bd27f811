-- The measures of an expression that is no call: what its own row brings, and those of its operands.
use mathlib.Core.Path.{sym}
use Rattle.language.specs.Decode.{expression_at}
use Rattle.measures_table.specs.Parts.{called_in}
use Rattle.measures_table.specs.NoCalls.{copies-none}
use Rattle.measures_expressions.proofs.expressions.measured_plain.Goals as goal

pub copied_at-copied-requires : goal.copied_at-copied-requires
copied_at-copied-requires c = (c.requires.0, c.requires.1, c.requires.2)

pub own_at-own-requires : goal.own_at-own-requires
own_at-own-requires c = record { measured_from = (c.requires.1, c.requires.2, c.copied_at-copied.ensures); row_value = c.requires.3 }

pub expression_rows-requires : goal.expression_rows-requires
expression_rows-requires c = (c.requires.1, c.requires.2, c.own_at-own.ensures, c.requires.3)

pub expression_levels-requires : goal.expression_levels-requires
expression_levels-requires c = (c.requires.1, c.requires.2, c.own_at-own.ensures)

pub expression_rows-requires-2 : goal.expression_rows-requires-2
expression_rows-requires-2 c = (c.requires.1, c.requires.2, c.own_at-own.ensures, c.requires.3)

pub expression_levels-requires-2 : goal.expression_levels-requires-2
expression_levels-requires-2 c = (c.requires.1, c.requires.2, c.own_at-own.ensures)

pub expression_levels-requires-3 : goal.expression_levels-requires-3
expression_levels-requires-3 c = (c.requires.1, c.requires.2, c.own_at-own.ensures)

pub returns : goal.returns
returns c = record { rows_are = c.expression_rows.ensures; levels_are = c.expression_levels.ensures; value_is = c.own_at-own.ensures.value_is; value_inside = c.own_at-own.ensures.value_inside; copied_is = c.copied_at-copied.ensures; dropped_rows_are = c.expression_rows-2.ensures; dropped_levels_are = c.expression_levels-2.ensures; stored_levels_are = c.expression_levels-3.ensures; copies_are = sym (copies-none (called_in c.args.rows.now) (expression_at c.args.rows.now c.args.row) c.requires.3) }
