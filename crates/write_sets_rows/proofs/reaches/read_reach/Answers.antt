-- The reach of a place that is read, by the place.
use mathlib.Core.Path.{refl, ap}
use Rattle.language_shapes.specs.ShapeLaws.{expressed}
use Rattle.language_shapes.specs.declared.ExpressionShape.TheVariants.{Read}
use Rattle.write_sets_rows.proofs.ReachLaws.{variable-reach, element-reach}
use Rattle.write_sets_rows.proofs.reaches.read_reach.Goals as goal

pub returns-in-Variable : goal.returns-in-Variable
returns-in-Variable c = λ called. variable-reach called (expressed c.requires (ap Read c.in-Variable.is)) refl refl

pub returns-in-Element : goal.returns-in-Element
returns-in-Element c = λ called. element-reach called (expressed c.requires (ap Read c.in-Element.is)) refl refl
