-- `trial`: the rule is read and checked; both forms are run, or its refusal is printed.
use native.Mathlib.Omega.{arith}
use Rattle.text_numbers.specs.PutLaws.{put_as}
use Rattle.trial.proofs.Rules.{refused-output, rule-output, rule-accepted, rule_fits}
use Rattle.trial.proofs.output.trial.Goals as goal

pub slice_bounds-run_source-end : goal.slice_bounds-run_source-end
slice_bounds-run_source-end c =
    let h = rw c.in-Ok.is at c.read_rule-answer.ensures in
    omega (arith, c.read_rule-answer.auto.header, h.header_inside)

pub slice_bounds-run_source-end-in-Ok : goal.slice_bounds-run_source-end-in-Ok
slice_bounds-run_source-end-in-Ok c =
    let h = rw c.in-Ok.is at c.read_rule-answer.ensures in
    omega (arith, c.read_rule-answer.auto.rows, h.rows_inside)

pub run_source-requires : goal.run_source-requires
run_source-requires c =
    let h = rw c.in-Ok.is at c.read_rule-answer.ensures in
    record { fits = rule_fits c.args.text.now h _ c.requires; rows_value = rule-accepted c.args.text.now h }

pub returns-in-Ok : goal.returns-in-Ok
returns-in-Ok c =
    let h = rw c.in-Ok.is at c.read_rule-answer.ensures in
    put_as (rule-output c.args.text.now h) c.run_source.ensures

pub returns-in-Err : goal.returns-in-Err
returns-in-Err c =
    put_as (refused-output c.args.text.now _ _ (rw c.in-Err.is at c.read_rule-answer.ensures)) c.refused_line.ensures
