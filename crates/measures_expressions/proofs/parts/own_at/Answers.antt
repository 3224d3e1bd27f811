-- What an expression's own row brings, by its shape.
use Rattle.language_shapes.specs.ShapeLaws.{expressed}
use Rattle.measures_expressions.proofs.OwnLaws.{own-number}
use Rattle.measures_expressions.proofs.PassedLaws.{called-otherwise}
use Rattle.measures_expressions.proofs.parts.own_at.Goals as goal

pub own_read-requires : goal.own_read-requires
own_read-requires c = (c.requires.measured_from.1, expressed c.expression_at-shape.ensures c.in-Read.is)

pub own_operation-requires : goal.own_operation-requires
own_operation-requires c = (c.requires.measured_from.0, c.requires.measured_from.1, expressed c.expression_at-shape.ensures c.in-Operation.is, c.requires.measured_from.2)

pub own_choice-requires : goal.own_choice-requires
own_choice-requires c = (c.requires.measured_from.0, c.requires.measured_from.1, expressed c.expression_at-shape.ensures c.in-Choice.is)

pub returns-in-Number : goal.returns-in-Number
returns-in-Number c = own-number c.requires.measured_from.1 (expressed c.expression_at-shape.ensures c.in-Number.is) c.own.ensures

pub returns-in-Read : goal.returns-in-Read
returns-in-Read c = c.own_read.ensures

pub returns-in-Operation : goal.returns-in-Operation
returns-in-Operation c = c.own_operation.ensures

pub returns-in-Choice : goal.returns-in-Choice
returns-in-Choice c = c.own_choice.ensures

pub returns-in-Call : goal.returns-in-Call
returns-in-Call c = absurd (called-otherwise (expressed c.expression_at-shape.ensures c.in-Call.is) c.requires.row_value)
