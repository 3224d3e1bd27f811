-- `put_run`: the run, and its line.
use mathlib.Core.Path.{ap}
use Rattle.text_numbers.specs.PutLaws.{put_as}
use Rattle.command_runs.specs.Tasks.{result_line}
use borrow.Author.Rules.{rules}
use Rattle.command_runs.proofs.tasks.put_run.Goals as goal

pub returns : goal.returns
returns c = put_as (ap result_line c.run_form-verdict.ensures) c.run_line.ensures
