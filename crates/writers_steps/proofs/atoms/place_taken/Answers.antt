-- The temporaries of an index, by the place.
use mathlib.Core.Path.{sym, ap, ◌∙◌}
use Rattle.translation.specs.Translate.{place_taken}
use Rattle.language_shapes.specs.ShapeLaws.{placed}
use Rattle.measures_table.specs.MeasureLaws.{whole-asks}
use Rattle.measures_table.specs.Parts.{called_in}
use Rattle.writers_steps.proofs.atoms.place_taken.Goals as goal

pub taken_at-requires : goal.taken_at-requires
taken_at-requires c = whole-asks c.requires.0 (placed c.place_at-place.ensures c.in-Element.is).onward.1.inside

pub returns-in-Variable : goal.returns-in-Variable
unfolding place_taken
returns-in-Variable c = sym (ap (place_taken (called_in c.args.source.now.rows.now)) (placed c.place_at-place.ensures c.in-Variable.is).is)

pub returns-in-Element : goal.returns-in-Element
unfolding place_taken
returns-in-Element c = c.taken_at.ensures ∙ sym (ap (place_taken (called_in c.args.source.now.rows.now)) (placed c.place_at-place.ensures c.in-Element.is).is)
