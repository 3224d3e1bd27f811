-- `put_list_run`: the run, and its line.
use mathlib.Core.Path.{ap}
use Rattle.text_numbers.specs.PutLaws.{put_as}
use Rattle.command_flat.specs.Lists.{flat_line}
use borrow.Author.Rules.{rules}
use Rattle.command_flat.proofs.put_list_run.Goals as goal

pub returns : goal.returns
returns c = put_as (ap flat_line c.flat_run-verdict.ensures) c.run_line.ensures
