-- What holds the value that comes from a row, by its shape.
use mathlib.Core.Path.{refl}
use mir.Facts.{to_z-of_z}
use mir.Syntax.{w32}
use Rattle.language_shapes.specs.ShapeLaws.{expressed}
use Rattle.measures_expressions.proofs.HolderLaws.{plain-holds, place-holds, choice-holds, number-holds, top-holds}
use borrow.Author.Rules.{rules}
use Rattle.measures_expressions.proofs.holders.plain_holder.Goals as goal

pub operation_holder-requires : goal.operation_holder-requires
operation_holder-requires c =
    (c.requires.0, expressed c.expression_at-shape.ensures c.in-Operation.is)

pub returns-in-Number : goal.returns-in-Number
returns-in-Number c =
    plain-holds (expressed c.expression_at-shape.ensures c.in-Number.is) (number-holds (to_z-of_z {w = w32} (search rules)))

pub returns-in-Read : goal.returns-in-Read
returns-in-Read c =
    let f = expressed c.expression_at-shape.ensures c.in-Read.is in plain-holds f (place-holds _ _ c.in-Read.place f.onward c.place_holder.ensures)

pub returns-in-Choice : goal.returns-in-Choice
returns-in-Choice c =
    choice-holds (expressed c.expression_at-shape.ensures c.in-Choice.is)

pub returns-in-Call : goal.returns-in-Call
returns-in-Call c =
    plain-holds (expressed c.expression_at-shape.ensures c.in-Call.is) (top-holds refl)
