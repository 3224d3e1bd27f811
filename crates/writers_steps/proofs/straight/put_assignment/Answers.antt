-- The value of the first operand into the place, by the place.
use mathlib.Core.Path.{sym, ap, ◌∙◌}
use native.Mathlib.Omega.{arith}
use Rattle.language.specs.Trees.{assign, Place}
use Rattle.language.specs.Decode.{expression_at}
use Rattle.language.specs.Writes.{index_writes}
use Rattle.translation.specs.Uses.{direct}
use Rattle.translation.specs.Translate.{atom_of}
use Rattle.translation.specs.TranslateSize.{store_rows, copied}
use Rattle.language_shapes.specs.ShapeLaws.{placed}
use Rattle.writers_rows.specs.Straight.{straight_code}
use Rattle.writers_rows.specs.Chain.{room-less}
use Rattle.writers_rows.specs.LeafLaws.{recoded}
use Rattle.measures_table.specs.Parts.{called_in}
use Rattle.writers_steps.proofs.straight.put_assignment.Goals as goal

pub put_variable-requires : goal.put_variable-requires
put_variable-requires c =
    let args = c.args in
    let asks = c.requires in
    let found = placed c.place_at-shape.ensures c.in-Variable.is in
    let size = ap (λ (p : Place). store_rows p (direct (expression_at args.source.now.rows.now args.value))) found.is in
    record { writing = asks.writing; low = found.onward.low; value_inside = asks.value_inside; level_low = asks.level_low; room = room-less _ asks.room (omega (arith, size)) }

pub put_element-requires : goal.put_element-requires
put_element-requires c =
    let args = c.args in
    let asks = c.requires in
    let found = placed c.place_at-shape.ensures c.in-Element.is in
    let size = ap (λ (p : Place). store_rows p (direct (expression_at args.source.now.rows.now args.value))) found.is in
    let copies = ap (λ (p : Place). copied (atom_of (called_in args.source.now.rows.now) (expression_at args.source.now.rows.now args.value)) (index_writes (called_in args.source.now.rows.now) p)) found.is in
    record { writing = asks.writing; low = found.onward.0; index_inside = found.onward.1.inside; value_inside = asks.value_inside; copies_are = asks.copies_are ∙ copies; level_low = asks.level_low; room = room-less _ asks.room (omega (arith, size)) }

pub returns-in-Variable : goal.returns-in-Variable
returns-in-Variable c =
    let args = c.args in
    recoded _ _ _ _ _ _ c.put_variable.ensures
    (ap (λ (p : Place). straight_code (called_in args.source.now.rows.now) args.source.now.store (assign p (expression_at args.source.now.rows.now args.value)) args.usage args.at.level) (sym (placed c.place_at-shape.ensures c.in-Variable.is).is))

pub returns-in-Element : goal.returns-in-Element
returns-in-Element c =
    let args = c.args in
    recoded _ _ _ _ _ _ c.put_element.ensures
    (ap (λ (p : Place). straight_code (called_in args.source.now.rows.now) args.source.now.store (assign p (expression_at args.source.now.rows.now args.value)) args.usage args.at.level) (sym (placed c.place_at-shape.ensures c.in-Element.is).is))
