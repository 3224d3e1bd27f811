-- The call at a row, which is one.
use mathlib.Core.Path.{sym, ◌∙◌}
use mathlib.Core.Bool.{true≢false}
use Rattle.language_shapes.specs.ShapeLaws.{expressed}
use Rattle.measures_expressions.proofs.PassedLaws.{number-no-call, read-no-call, operated-no-call, chosen-no-call}
use Rattle.writers_calls.proofs.called.call_at.Goals as goal

pub returns-in-Number : goal.returns-in-Number
returns-in-Number c = absurd (true≢false (sym c.requires.2 ∙ number-no-call (expressed c.expression_at-shape.ensures c.in-Number.is)))

pub returns-in-Read : goal.returns-in-Read
returns-in-Read c = absurd (true≢false (sym c.requires.2 ∙ read-no-call (expressed c.expression_at-shape.ensures c.in-Read.is)))

pub returns-in-Operation : goal.returns-in-Operation
returns-in-Operation c = absurd (true≢false (sym c.requires.2 ∙ operated-no-call (expressed c.expression_at-shape.ensures c.in-Operation.is)))

pub returns-in-Choice : goal.returns-in-Choice
returns-in-Choice c = absurd (true≢false (sym c.requires.2 ∙ chosen-no-call (expressed c.expression_at-shape.ensures c.in-Choice.is)))

pub returns-in-Call : goal.returns-in-Call
returns-in-Call c =
    let at = expressed c.expression_at-shape.ensures c.in-Call.is in
    record { is = at.is; onward = at.onward }
