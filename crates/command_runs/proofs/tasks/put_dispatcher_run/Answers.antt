-- `put_dispatcher_run`: the dispatcher's run, and its line.
use mathlib.Core.Path.{ap}
use Rattle.text_numbers.specs.PutLaws.{put_as}
use Rattle.command_runs.specs.Tasks.{shown_line}
use borrow.Author.Rules.{rules}
use Rattle.command_runs.proofs.tasks.put_dispatcher_run.Goals as goal

pub returns : goal.returns
returns c = put_as (ap shown_line c.dispatcher_run-verdict.ensures) c.dispatcher_line.ensures
