-- What the row of a place that is read brings.
use mathlib.Core.Path.{ap}
use Rattle.language_shapes.specs.ShapeLaws.{expressed}
use Rattle.language_shapes.specs.declared.ExpressionShape.TheVariants.{Read}
use Rattle.measures_expressions.proofs.OwnLaws.{own-variable, own-element}
use Rattle.measures_expressions.proofs.parts.own_read.Goals as goal

pub returns-in-Variable : goal.returns-in-Variable
returns-in-Variable c =
    own-variable c.requires.0 (expressed c.requires.1 (ap Read c.in-Variable.is)) c.own.ensures

pub returns-in-Element : goal.returns-in-Element
returns-in-Element c =
    own-element c.requires.0 (expressed c.requires.1 (ap Read c.in-Element.is)) c.result.ensures
