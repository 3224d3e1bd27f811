-- Whether a value goes straight into a variable, by the shape of its row.
use mathlib.Core.Path.{refl, ap, ◌∙◌}
use Rattle.language_shapes.specs.ShapeLaws.{expressed}
use Rattle.language_shapes.specs.declared.ExpressionShape.TheVariants.{Read}
use Rattle.translation.specs.Uses.{direct}
use Rattle.measures_expressions.proofs.HolderLaws.{direct-shape, operation-direct, choice-direct}
use Rattle.measures_expressions.proofs.holders.direct_at.Goals as goal

pub returns-in-Number : goal.returns-in-Number
unfolding direct
returns-in-Number c =
    direct-shape (expressed c.expression_at-shape.ensures c.in-Number.is) refl

pub returns-in-Variable : goal.returns-in-Variable
unfolding direct
returns-in-Variable c =
    direct-shape (expressed (expressed c.expression_at-shape.ensures c.in-Read.is) (ap Read c.in-Variable.is)) refl

pub returns-in-Element : goal.returns-in-Element
unfolding direct
returns-in-Element c =
    direct-shape (expressed (expressed c.expression_at-shape.ensures c.in-Read.is) (ap Read c.in-Element.is)) refl

pub returns-in-Operation : goal.returns-in-Operation
returns-in-Operation c =
    direct-shape (expressed c.expression_at-shape.ensures c.in-Operation.is) (c.direct_operation.ensures ∙ operation-direct c.args.rows.now c.in-Operation.operation)

pub returns-in-Choice : goal.returns-in-Choice
returns-in-Choice c =
    direct-shape (expressed c.expression_at-shape.ensures c.in-Choice.is) (choice-direct c.args.rows.now c.in-Choice.field-0)

pub returns-in-Call : goal.returns-in-Call
unfolding direct
returns-in-Call c =
    direct-shape (expressed c.expression_at-shape.ensures c.in-Call.is) refl
