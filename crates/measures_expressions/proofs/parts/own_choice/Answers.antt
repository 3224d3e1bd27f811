-- What the row of a choice brings, kind by kind.
use mathlib.Core.Path.{ap}
use native.Mathlib.Omega.{arith}
use Rattle.language.specs.Decode.{expression_at}
use Rattle.language_shapes.specs.ShapeLaws.{expressed}
use Rattle.language_shapes.specs.declared.ExpressionShape.TheVariants.{Choice}
use Rattle.translation.specs.Translate.{atom_of}
use Rattle.translation.proofs.TranslateBounds.{taken_most}
use Rattle.measures_table.specs.MeasureLaws.{link-asks}
use Rattle.measures_expressions.proofs.OwnLaws.{own-and, own-or, own-conditional}
use Rattle.measures_table.specs.Parts.{called_in}
use Rattle.measures_expressions.proofs.parts.own_choice.Goals as goal

pub taken_at-requires : goal.taken_at-requires
taken_at-requires c = link-asks c.requires.0 (expressed c.requires.2 (ap Choice c.in-Conditional.is)).onward.1

pub overflow_mul-own_rows : goal.overflow_mul-own_rows
overflow_mul-own_rows c = omega (arith, c.taken_at.ensures, taken_most (atom_of (called_in c.args.rows.now) (expression_at c.args.rows.now c.in-Conditional.a)))

pub overflow_sub-own_rows : goal.overflow_sub-own_rows
overflow_sub-own_rows c = omega (arith, c.taken_at.ensures, taken_most (atom_of (called_in c.args.rows.now) (expression_at c.args.rows.now c.in-Conditional.a)))

pub taken_at-requires-in-Conditional : goal.taken_at-requires-in-Conditional
taken_at-requires-in-Conditional c = link-asks c.requires.0 (expressed c.requires.2 (ap Choice c.in-Conditional.is)).onward.2

pub overflow_mul-own_rows-in-Conditional : goal.overflow_mul-own_rows-in-Conditional
overflow_mul-own_rows-in-Conditional c = omega (arith, c.taken_at-in-Conditional.ensures, taken_most (atom_of (called_in c.args.rows.now) (expression_at c.args.rows.now c.in-Conditional.b)))

pub overflow_sub-own_rows-in-Conditional : goal.overflow_sub-own_rows-in-Conditional
overflow_sub-own_rows-in-Conditional c = omega (arith, c.taken_at.ensures, taken_most (atom_of (called_in c.args.rows.now) (expression_at c.args.rows.now c.in-Conditional.a)), c.taken_at-in-Conditional.ensures, taken_most (atom_of (called_in c.args.rows.now) (expression_at c.args.rows.now c.in-Conditional.b)))

pub returns-in-And : goal.returns-in-And
returns-in-And c = own-and c.requires.1 (expressed c.requires.2 (ap Choice c.in-And.is)) c.own.ensures

pub returns-in-Or : goal.returns-in-Or
returns-in-Or c = own-or c.requires.1 (expressed c.requires.2 (ap Choice c.in-Or.is)) c.own-in-Or.ensures

pub returns-in-Conditional : goal.returns-in-Conditional
returns-in-Conditional c = own-conditional c.requires.1 (expressed c.requires.2 (ap Choice c.in-Conditional.is)) c.taken_at.ensures c.taken_at-in-Conditional.ensures c.own-in-Conditional.ensures
