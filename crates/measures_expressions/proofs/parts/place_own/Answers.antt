-- What a place's row brings.
use native.Mathlib.Omega.{arith}
use Rattle.language.specs.Decode.{expression_at}
use Rattle.language_shapes.specs.ShapeLaws.{placed}
use Rattle.translation.specs.Translate.{atom_of}
use Rattle.translation.proofs.TranslateBounds.{taken_most}
use Rattle.measures_table.specs.MeasureLaws.{link-asks}
use Rattle.measures_expressions.proofs.OwnLaws.{own-variable-place, own-element-place}
use Rattle.measures_table.specs.Parts.{called_in}
use Rattle.measures_expressions.proofs.parts.place_own.Goals as goal

pub taken_at-requires : goal.taken_at-requires
taken_at-requires c = link-asks c.requires.0 (placed c.place_at-place.ensures c.in-Element.is).onward.1

pub overflow_add-result : goal.overflow_add-result
overflow_add-result c = omega (arith, c.taken_at.ensures, taken_most (atom_of (called_in c.args.rows.now) (expression_at c.args.rows.now c.in-Element.index)))

pub returns-in-Variable : goal.returns-in-Variable
returns-in-Variable c = own-variable-place (placed c.place_at-place.ensures c.in-Variable.is)

pub returns-in-Element : goal.returns-in-Element
returns-in-Element c = own-element-place (placed c.place_at-place.ensures c.in-Element.is) c.taken_at.ensures
