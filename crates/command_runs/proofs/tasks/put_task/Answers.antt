-- `put_task`: the run, the preview, the dispatcher's run, or the run of a flat list.
use borrow.Author.Rules.{rules}
use Rattle.command_runs.proofs.tasks.put_task.Goals as goal

pub put_run-requires : goal.put_run-requires
put_run-requires c = c.requires.store_in_bounds

pub put_preview-requires : goal.put_preview-requires
put_preview-requires c =
    let kind = c.in-Preview.is in
    record { header_value = rw kind at c.requires.header_value; rows_bound = rw kind at c.requires.rows_bound; output_room_in_bounds = c.requires.output_room_in_bounds }

pub returns-in-Run : goal.returns-in-Run
returns-in-Run c = rw c.in-Run.is c.put_run.ensures

pub returns-in-Preview : goal.returns-in-Preview
returns-in-Preview c = rw c.in-Preview.is c.put_preview.ensures

pub returns-in-DispatcherRun : goal.returns-in-DispatcherRun
returns-in-DispatcherRun c = rw c.in-DispatcherRun.is c.put_dispatcher_run.ensures

pub returns-in-FlatRun : goal.returns-in-FlatRun
returns-in-FlatRun c = rw c.in-FlatRun.is c.put_list_run.ensures
