-- `start_zeros`: the refusal of the reader, or the run or preview of what it read.
use native.Mathlib.Omega.{arith}
use Rattle.text_numbers.specs.PutLaws.{put_as}
use Rattle.command_runs.specs.Tasks.{zeros_lines, zeros_output}
use borrow.Author.Rules.{rules}
use Rattle.command_runs.proofs.tasks.start_zeros.Goals as goal

pub refused_line-requires : goal.refused_line-requires
refused_line-requires c = omega (arith, c.requires.output_room_in_bounds)

pub slice_bounds-put_zeros_task-end : goal.slice_bounds-put_zeros_task-end
slice_bounds-put_zeros_task-end c = (rw c.in-Ok.is at c.read_task-answer.ensures).header_inside

pub slice_bounds-put_zeros_task-end-in-Ok : goal.slice_bounds-put_zeros_task-end-in-Ok
slice_bounds-put_zeros_task-end-in-Ok c = (rw c.in-Ok.is at c.read_task-answer.ensures).rows_inside

pub put_zeros_task-requires : goal.put_zeros_task-requires
put_zeros_task-requires c =
    let text = rw c.in-Ok.is at c.read_task-answer.ensures in
    record { header_value = text.fits; rows_bound = text.small; output_room_in_bounds = c.requires.output_room_in_bounds }

pub returns-in-Err : goal.returns-in-Err
unfolding zeros_output
returns-in-Err c = put_as ((rw c.in-Err.is at c.read_task-answer.ensures) (zeros_lines c.args.task c.args.budget)) c.refused_line.ensures

pub returns-in-Ok : goal.returns-in-Ok
unfolding zeros_output
returns-in-Ok c = put_as ((rw c.in-Ok.is at c.read_task-answer.ensures).is (zeros_lines c.args.task c.args.budget)) c.put_zeros_task.ensures
