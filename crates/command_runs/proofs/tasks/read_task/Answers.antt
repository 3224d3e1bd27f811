-- `read_task`: the reader of programs, or of flat lists.
use borrow.Author.Rules.{rules}
use Rattle.command_runs.proofs.tasks.read_task.Goals as goal

pub read_program-requires : goal.read_program-requires
read_program-requires c = rw c.in-Run.is at c.requires

pub read_program-requires-in-Preview : goal.read_program-requires-in-Preview
read_program-requires-in-Preview c = rw c.in-Preview.is at c.requires

pub read_program-requires-in-DispatcherRun : goal.read_program-requires-in-DispatcherRun
read_program-requires-in-DispatcherRun c = rw c.in-DispatcherRun.is at c.requires

pub read_list-requires : goal.read_list-requires
read_list-requires c = rw c.in-FlatRun.is at c.requires

pub returns-in-Run : goal.returns-in-Run
returns-in-Run c = rw c.in-Run.is c.read_program.ensures

pub returns-in-Preview : goal.returns-in-Preview
returns-in-Preview c = rw c.in-Preview.is c.read_program-in-Preview.ensures

pub returns-in-DispatcherRun : goal.returns-in-DispatcherRun
returns-in-DispatcherRun c = rw c.in-DispatcherRun.is c.read_program-in-DispatcherRun.ensures

pub returns-in-FlatRun : goal.returns-in-FlatRun
returns-in-FlatRun c = rw c.in-FlatRun.is c.read_list.ensures
