-- What the row of an assignment to a variable brings: straight there, or by an atom.
use mathlib.Core.Path.{sym, ◌∙◌}
use native.Mathlib.Omega.{arith}
use Rattle.language_shapes.specs.ShapeLaws.{optional}
use Rattle.measures_table.specs.Measures.{value_slot}
use Rattle.measures_table.specs.MeasureLaws.{link-asks, slot-asks}
use Rattle.measures_expressions.proofs.OwnLaws.{own-straight, own-moved}
use Rattle.measures_expressions.proofs.parts.own_store.Goals as goal

pub returns-then-direct_at : goal.returns-then-direct_at
returns-then-direct_at c =
    own-straight c.requires (sym c.direct_at.ensures ∙ c.if-direct_at.true) c.stored.ensures

pub taken_at-above-requires : goal.taken_at-above-requires
taken_at-above-requires c =
    link-asks c.requires.measured c.requires.onward

pub measure_at-requires : goal.measure_at-requires
measure_at-requires c =
    slot-asks c.requires.measured (optional c.requires.onward) value_slot (omega arith)

pub returns : goal.returns
returns c =
    own-moved c.requires (sym c.direct_at.ensures ∙ c.if-direct_at.false) c.taken_at-above.ensures c.measure_at.ensures.is c.stored-2.ensures
