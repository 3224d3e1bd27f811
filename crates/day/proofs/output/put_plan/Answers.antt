-- `put_plan`: the plan's refusal is printed, or the lines of its values.
use native.Mathlib.Omega.{arith}
use Rattle.words.specs.Laws.{header_fits-facts}
use Rattle.words.specs.declared.Form.TheVariants.{Source}
use Rattle.words.proofs.Signed.{natural-again}
use Rattle.text_numbers.specs.PutLaws.{put_as}
use Rattle.day_values.proofs.Printing.{variables-are}
use Rattle.day.proofs.Printed.{plan-refused, plan-printed, plan-days}
use Rattle.day.proofs.output.put_plan.Goals as goal

pub bounds-header-0 : goal.bounds-header-0
bounds-header-0 c =
    omega (arith, (header_fits-facts Source _ c.requires.accepted.header-fits).least)

pub slice_bounds-put_resolved-count : goal.slice_bounds-put_resolved-count
slice_bounds-put_resolved-count c =
    let p = rw c.in-Ok.is at c.read_plan-answer.ensures in p.inside

pub slice_bounds-put_resolved-start : goal.slice_bounds-put_resolved-start
slice_bounds-put_resolved-start c =
    let p = rw c.in-Ok.is at c.read_plan-answer.ensures in omega (arith, p.inside)

pub put_resolved-requires : goal.put_resolved-requires
put_resolved-requires c =
    let v = variables-are c.args.header.now c.natural-variables.result (natural-again _ _ c.natural-arg-1.given c.natural-variables.ensures) in
    let p = rw c.in-Ok.is at c.read_plan-answer.ensures in
    record { accepted = c.requires.accepted; days_len_bound = plan-days c.args.header.now c.args.rows.now c.args.input.now v p; sets = p.sets; day_room_in_bounds = c.requires.day_room_in_bounds }

pub returns-in-Ok : goal.returns-in-Ok
returns-in-Ok c =
    let v = variables-are c.args.header.now c.natural-variables.result (natural-again _ _ c.natural-arg-1.given c.natural-variables.ensures) in
    let p = rw c.in-Ok.is at c.read_plan-answer.ensures in
    put_as (plan-printed c.args.header.now c.args.rows.now c.args.input.now v p) c.put_resolved.ensures

pub returns-in-Err : goal.returns-in-Err
returns-in-Err c =
    let v = variables-are c.args.header.now c.natural-variables.result (natural-again _ _ c.natural-arg-1.given c.natural-variables.ensures) in
    put_as (plan-refused c.args.header.now c.args.rows.now c.args.input.now v _ _ (rw c.in-Err.is at c.read_plan-answer.ensures)) c.refused_line.ensures
