-- `read_plan`: the lines behind the rule are those of the input's part, and counted in the whole input.
use native.Mathlib.Omega.{arith}
use Rattle.text_form.proofs.ReaderLaws.{err-is}
use Rattle.day_form.proofs.Bounds.{rule-inside}
use Rattle.day_form.proofs.Plans.{lines-within, plan-planned, plan-refused}
use borrow.Author.Rules.{rules}
use Rattle.day_form.proofs.plan.read_plan.Goals as goal

pub lines_start-start-requires : goal.lines_start-start-requires
lines_start-start-requires c =
    omega (arith, c.requires, rule-inside c.args.input.now)

pub overflow_add-first : goal.overflow_add-first
overflow_add-first c =
    omega (arith, lines-within c.args.input.now c.requires c.lines_start-start.ensures _ c.count_lines-first.ensures, c.well_formed.1.0.1)

pub plan_lines-requires : goal.plan_lines-requires
plan_lines-requires c =
    omega (arith, lines-within c.args.input.now c.requires c.lines_start-start.ensures _ c.count_lines-first.ensures, c.well_formed.1.0.1)

pub overflow_add-result : goal.overflow_add-result
overflow_add-result c =
    let p = plan-planned c.args.input.now c.requires c.lines_start-start.ensures _ c.count_lines-first.ensures _ _ _ (rw c.in_ok-setting.was at c.plan_lines.ensures) in omega (arith, p.inside, c.well_formed.1.0.0)

pub returns : goal.returns
returns c =
    plan-planned c.args.input.now c.requires c.lines_start-start.ensures _ c.count_lines-first.ensures _ _ _ (rw c.in_ok-setting.was at c.plan_lines.ensures)

pub returns-in_err-setting : goal.returns-in_err-setting
returns-in_err-setting c =
    rw (err-is _ _ c.from_residual.ensures.1)
    (plan-refused c.args.input.now c.requires c.lines_start-start.ensures _ c.count_lines-first.ensures _ _ _ (rw c.in_err-setting.was at c.plan_lines.ensures))
