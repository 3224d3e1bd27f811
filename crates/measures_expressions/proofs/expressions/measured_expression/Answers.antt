-- The measures of an expression, by whether it is a call.
use native.Mathlib.Omega.{arith}
use Rattle.translation.specs.Translate.{nothing}
use Rattle.language_shapes.specs.ShapeLaws.{expressed}
use Rattle.language_shapes.specs.CallLaws.{call-arguments}
use Rattle.measures_table.specs.MeasureLaws.{measured-less}
use Rattle.write_sets_rows.proofs.WriteLaws.{set-nothing}
use Rattle.measures_expressions.proofs.PassedLaws.{call-measured, number-no-call, read-no-call, operated-no-call, chosen-no-call}
use Rattle.measures_expressions.proofs.expressions.measured_expression.Goals as goal

pub measured_plain-requires : goal.measured_plain-requires
measured_plain-requires c = (c.requires.0, c.requires.1, c.requires.2, number-no-call (expressed c.expression_at-shape.ensures c.in-Number.is))

pub measured_plain-requires-in-Read : goal.measured_plain-requires-in-Read
measured_plain-requires-in-Read c = (c.requires.0, c.requires.1, c.requires.2, read-no-call (expressed c.expression_at-shape.ensures c.in-Read.is))

pub measured_plain-requires-in-Operation : goal.measured_plain-requires-in-Operation
measured_plain-requires-in-Operation c = (c.requires.0, c.requires.1, c.requires.2, operated-no-call (expressed c.expression_at-shape.ensures c.in-Operation.is))

pub measured_plain-requires-in-Choice : goal.measured_plain-requires-in-Choice
measured_plain-requires-in-Choice c = (c.requires.0, c.requires.1, c.requires.2, chosen-no-call (expressed c.expression_at-shape.ensures c.in-Choice.is))

pub passed_measures-passed-requires : goal.passed_measures-passed-requires
passed_measures-passed-requires c =
    let p = c.requires in
    let f = expressed c.expression_at-shape.ensures c.in-Call.is in
    (p.0, λ h. (measured-less _ p.1 (omega (arith, (f.onward h).later)), (f.onward h).inside), call-arguments p.0.source p.2 f.is)

pub call_measures-requires : goal.call_measures-requires
call_measures-requires c =
    let p = c.requires in
    let f = expressed c.expression_at-shape.ensures c.in-Call.is in
    (c.passed_measures-passed.ensures.rows_small, omega (arith, c.passed_measures-passed.ensures.count_is, call-arguments p.0.source p.2 f.is))

pub returns-in-Call : goal.returns-in-Call
returns-in-Call c = call-measured (expressed c.expression_at-shape.ensures c.in-Call.is) c.requires.2 (c.passed_measures-passed.ensures.measured nothing (set-nothing c.nothing.ensures)) c.call_measures.ensures
