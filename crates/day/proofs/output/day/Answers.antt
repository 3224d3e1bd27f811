-- `day`: the rule is read and checked; what stands behind it is printed, or the rule's refusal.
use native.Mathlib.Omega.{arith}
use Rattle.text_numbers.specs.PutLaws.{put_as}
use Rattle.day_form.proofs.Bounds.{rule-inside}
use Rattle.day.proofs.Printed.{rule-refused, rule-printed, rule-accepted}
use Rattle.day.proofs.output.day.Goals as goal

pub slice_bounds-read_rule-end : goal.slice_bounds-read_rule-end
slice_bounds-read_rule-end c =
    omega (arith, c.rule_size-size.ensures, rule-inside c.args.input.now)

pub slice_bounds-put_plan-end : goal.slice_bounds-put_plan-end
slice_bounds-put_plan-end c =
    let h = rw c.in-Ok.is at c.read_rule-answer.ensures in omega (arith, c.read_rule-answer.auto.header, h.header_inside)

pub slice_bounds-put_plan-end-in-Ok : goal.slice_bounds-put_plan-end-in-Ok
slice_bounds-put_plan-end-in-Ok c =
    let h = rw c.in-Ok.is at c.read_rule-answer.ensures in omega (arith, c.read_rule-answer.auto.rows, h.rows_inside)

pub put_plan-requires : goal.put_plan-requires
put_plan-requires c =
    let h = rw c.in-Ok.is at c.read_rule-answer.ensures in
    record { accepted = rule-accepted c.args.input.now c.rule_size-size.ensures h; size_value = c.rule_size-size.ensures; day_room_in_bounds = c.requires }

pub returns-in-Ok : goal.returns-in-Ok
returns-in-Ok c =
    let h = rw c.in-Ok.is at c.read_rule-answer.ensures in
    put_as (rule-printed c.args.input.now c.rule_size-size.ensures h) c.put_plan.ensures

pub returns-in-Err : goal.returns-in-Err
returns-in-Err c =
    put_as (rule-refused c.args.input.now c.rule_size-size.ensures _ _ (rw c.in-Err.is at c.read_rule-answer.ensures)) c.refused_line.ensures
