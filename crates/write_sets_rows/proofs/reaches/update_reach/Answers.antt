-- The reach of an update, by its place.
use mathlib.Core.Path.{refl}
use Rattle.language_shapes.specs.ShapeLaws.{placed}
use Rattle.write_sets_rows.proofs.ReachLaws.{variable-update, element-update}
use Rattle.write_sets_rows.proofs.reaches.update_reach.Goals as goal

pub returns-in-Variable : goal.returns-in-Variable
returns-in-Variable c = variable-update c.requires.1 (placed c.place_at-shape.ensures c.in-Variable.is) c.single.ensures refl

pub returns-in-Element : goal.returns-in-Element
returns-in-Element c = element-update (placed c.place_at-shape.ensures c.in-Element.is) refl refl
