-- Whether an operation copies the value of its first operand, kind by kind.
use mathlib.Core.Path.{refl, ap}
use Rattle.language_shapes.specs.ShapeLaws.{expressed}
use Rattle.language_shapes.specs.declared.ExpressionShape.TheVariants.{Operation}
use Rattle.measures_table.specs.MeasureLaws.{link-asks}
use Rattle.write_sets_rows.proofs.WriteLaws.{copied_none, copied-binary, copied-assign, copied-compound, index_inside}
use Rattle.measures_expressions.proofs.copies.copied_operation.Goals as goal

pub copied_over-requires : goal.copied_over-requires
copied_over-requires c =
    let asked = c.requires in
    let shape = expressed asked.2 (ap Operation c.in-Binary.is) in
    let value = link-asks asked.1 shape.onward.1 in
    record { sets = (asked.0, value.1, shape.onward.0.inside); rows_in_bounds = (value.2, value.3) }

pub index_at-requires : goal.index_at-requires
index_at-requires c = (c.requires.0.source, (expressed c.requires.2 (ap Operation c.in-Assign.is)).onward.0.inside)

pub copied_over-requires-in-Assign : goal.copied_over-requires-in-Assign
copied_over-requires-in-Assign c =
    let asked = c.requires in
    let shape = expressed asked.2 (ap Operation c.in-Assign.is) in
    let value = link-asks asked.1 shape.onward.1 in
    record { sets = (asked.0, value.1, index_inside asked.0.source c.index_at.ensures); rows_in_bounds = (value.2, value.3) }

pub index_at-requires-in-Compound : goal.index_at-requires-in-Compound
index_at-requires-in-Compound c = (c.requires.0.source, (expressed c.requires.2 (ap Operation c.in-Compound.is)).onward.0.inside)

pub copied_over-requires-in-Compound : goal.copied_over-requires-in-Compound
copied_over-requires-in-Compound c =
    let asked = c.requires in
    let shape = expressed asked.2 (ap Operation c.in-Compound.is) in
    let value = link-asks asked.1 shape.onward.1 in
    record { sets = (asked.0, value.1, index_inside asked.0.source c.index_at-in-Compound.ensures); rows_in_bounds = (value.2, value.3) }

pub returns-in-Minus : goal.returns-in-Minus
returns-in-Minus c = copied_none (expressed c.requires.2 (ap Operation c.in-Minus.is)) refl

pub returns-in-Not : goal.returns-in-Not
returns-in-Not c = copied_none (expressed c.requires.2 (ap Operation c.in-Not.is)) refl

pub returns-in-Binary : goal.returns-in-Binary
returns-in-Binary c = copied-binary (expressed c.requires.2 (ap Operation c.in-Binary.is)) c.copied_over.ensures

pub returns-in-Comma : goal.returns-in-Comma
returns-in-Comma c = copied_none (expressed c.requires.2 (ap Operation c.in-Comma.is)) refl

pub returns-in-Assign : goal.returns-in-Assign
returns-in-Assign c = copied-assign (expressed c.requires.2 (ap Operation c.in-Assign.is)) c.index_at.ensures c.copied_over-in-Assign.ensures

pub returns-in-Compound : goal.returns-in-Compound
returns-in-Compound c = copied-compound (expressed c.requires.2 (ap Operation c.in-Compound.is)) c.index_at-in-Compound.ensures c.copied_over-in-Compound.ensures

pub returns-in-Prefix : goal.returns-in-Prefix
returns-in-Prefix c = copied_none (expressed c.requires.2 (ap Operation c.in-Prefix.is)) refl

pub returns-in-Postfix : goal.returns-in-Postfix
returns-in-Postfix c = copied_none (expressed c.requires.2 (ap Operation c.in-Postfix.is)) refl
