-- `put_page`: what the printer wrote or refused.
use native.Mathlib.Omega.{arith}
use Rattle.text_numbers.specs.PutLaws.{put_as}
use Rattle.command_text.proofs.Printing.{put_first}
use Rattle.command_questions.proofs.Printed.{printed, refused-page, refused-leaves, page-size, put-after}
use borrow.Author.Rules.{rules}
use Rattle.command_questions.proofs.translations.put_page.Goals as goal

pub slice_bounds-print_kernel-end : goal.slice_bounds-print_kernel-end
slice_bounds-print_kernel-end c = omega (arith, c.output_room-room.ensures, c.requires)

pub returns-in-Ok : goal.returns-in-Ok
returns-in-Ok c =
    let room = c.output_room-room in
    let whole = page-size c.args.out.now room.result room.ensures c.requires in
    let page = printed c.args.header.now c.args.rows.now _ whole (rw c.in-Ok.is at c.print_kernel-answer.ensures.writes) in
    put_first _ c.args.out.now room.result _ _ page.room page.put

pub returns-in-Err : goal.returns-in-Err
returns-in-Err c =
    let room = c.output_room-room in
    let whole = page-size c.args.out.now room.result room.ensures c.requires in
    let turned = rw c.in-Err.is at c.print_kernel-answer.ensures.writes in
    put_as (refused-page c.args.header.now c.args.rows.now _ whole turned)
    (put-after c.args.out.now _ room.result (refused-leaves c.args.header.now c.args.rows.now _ whole turned) c.refused_line.ensures)
