-- The row of the index of a place.
use Rattle.language_shapes.specs.ShapeLaws.{placed}
use Rattle.write_sets_rows.proofs.WriteLaws.{index-variable, index-element}
use Rattle.measures_expressions.proofs.copies.index_at.Goals as goal

pub returns-in-Variable : goal.returns-in-Variable
returns-in-Variable c = index-variable (placed c.place_at-place.ensures c.in-Variable.is)

pub returns-in-Element : goal.returns-in-Element
returns-in-Element c = index-element (placed c.place_at-place.ensures c.in-Element.is)
