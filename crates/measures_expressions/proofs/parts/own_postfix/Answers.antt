-- What the row of e++ or e−− brings, by its place.
use native.Mathlib.Omega.{arith}
use Rattle.language.specs.Decode.{expression_at}
use Rattle.translation.specs.Translate.{atom_of}
use Rattle.translation.proofs.TranslateBounds.{taken_most}
use Rattle.language_shapes.specs.ShapeLaws.{placed}
use Rattle.measures_table.specs.MeasureLaws.{link-asks, measured-less}
use Rattle.measures_expressions.proofs.OwnLaws.{own-step-variable, own-step-element}
use Rattle.measures_table.specs.Parts.{called_in}
use Rattle.measures_expressions.proofs.parts.own_postfix.Goals as goal

pub taken_at-levels-requires : goal.taken_at-levels-requires
taken_at-levels-requires c =
    link-asks (measured-less _ c.requires.0 (omega (arith, c.requires.2.onward.later))) (placed c.place_at-shape.ensures c.in-Element.is).onward.1

pub overflow_add-levels : goal.overflow_add-levels
overflow_add-levels c =
    omega (arith, c.taken_at-levels.ensures, taken_most (atom_of (called_in c.args.rows.now) (expression_at c.args.rows.now c.in-Element.index)))

pub returns-in-Variable : goal.returns-in-Variable
returns-in-Variable c =
    own-step-variable c.requires.1 c.requires.2 (placed c.place_at-shape.ensures c.in-Variable.is) c.own_step.ensures

pub returns-in-Element : goal.returns-in-Element
returns-in-Element c =
    own-step-element c.requires.1 c.requires.2 (placed c.place_at-shape.ensures c.in-Element.is) c.taken_at-levels.ensures c.own.ensures
