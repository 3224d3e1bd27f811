-- Whether an expression is a call, by the shape of its row.
use mathlib.Core.Path.{sym, ap}
use Rattle.language_shapes.specs.ShapeLaws.{expressed}
use Rattle.language_shapes.specs.Functions.{is_call}
use Rattle.measures_expressions.proofs.PassedLaws.{number-no-call, read-no-call, operated-no-call, chosen-no-call}
use Rattle.writers_calls.proofs.called.is_call.Goals as goal

pub returns-in-Number : goal.returns-in-Number
returns-in-Number c = sym (number-no-call (expressed c.expression_at-shape.ensures c.in-Number.is))

pub returns-in-Read : goal.returns-in-Read
returns-in-Read c = sym (read-no-call (expressed c.expression_at-shape.ensures c.in-Read.is))

pub returns-in-Operation : goal.returns-in-Operation
returns-in-Operation c = sym (operated-no-call (expressed c.expression_at-shape.ensures c.in-Operation.is))

pub returns-in-Choice : goal.returns-in-Choice
returns-in-Choice c = sym (chosen-no-call (expressed c.expression_at-shape.ensures c.in-Choice.is))

pub returns-in-Call : goal.returns-in-Call
returns-in-Call c = sym (ap is_call (expressed c.expression_at-shape.ensures c.in-Call.is).is)
