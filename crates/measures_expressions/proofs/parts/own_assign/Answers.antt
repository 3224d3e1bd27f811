-- What the row of an assignment brings, by its place.
use native.Mathlib.Omega.{arith}
use Rattle.language.specs.Decode.{expression_at}
use Rattle.translation.specs.Translate.{atom_of}
use Rattle.translation.proofs.TranslateBounds.{taken_most}
use Rattle.language_shapes.specs.ShapeLaws.{optional, placed}
use Rattle.measures_table.specs.MeasureLaws.{link-asks, slot-asks, first-copied-most}
use Rattle.measures_expressions.proofs.OwnLaws.{own-assign, store_asks}
use Rattle.measures_table.specs.Parts.{called_in}
use Rattle.measures_expressions.proofs.parts.own_assign.Goals as goal

pub own_store-requires : goal.own_store-requires
own_store-requires c =
    store_asks c.requires.0 c.requires.1 c.requires.2 (placed c.place_at-shape.ensures c.in-Variable.is)

pub taken_at-requires : goal.taken_at-requires
taken_at-requires c =
    link-asks c.requires.0 c.requires.2.onward.1

pub overflow_add-above : goal.overflow_add-above
overflow_add-above c =
    omega (arith, c.requires.3, first-copied-most (called_in c.args.rows.now) (expression_at c.args.rows.now c.args.row), c.taken_at.ensures, taken_most (atom_of (called_in c.args.rows.now) (expression_at c.args.rows.now c.args.e)))

pub value_at-value-requires : goal.value_at-value-requires
value_at-value-requires c =
    slot-asks c.requires.0 (optional c.requires.2.onward.1)

pub overflow_mul-copied : goal.overflow_mul-copied
overflow_mul-copied c =
    omega (arith, c.requires.3, first-copied-most (called_in c.args.rows.now) (expression_at c.args.rows.now c.args.row))

pub overflow_add-copied : goal.overflow_add-copied
overflow_add-copied c =
    omega (arith, c.requires.3, first-copied-most (called_in c.args.rows.now) (expression_at c.args.rows.now c.args.row))

pub returns-in-Element : goal.returns-in-Element
returns-in-Element c =
    own-assign c.requires.0 c.requires.1 c.requires.2 (placed c.place_at-shape.ensures c.in-Element.is) c.taken_at.ensures c.requires.3 c.value_at-value.ensures c.own.ensures
