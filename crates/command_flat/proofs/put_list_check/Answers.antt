-- `put_list_check`: the check, and its line.
use mathlib.Core.Path.{ap}
use Rattle.text_numbers.specs.PutLaws.{put_as}
use Rattle.command_lines.specs.Lines.{verdict_line}
use borrow.Author.Rules.{rules}
use Rattle.command_flat.proofs.put_list_check.Goals as goal

pub returns : goal.returns
returns c = put_as (ap verdict_line c.flat_check-verdict.ensures) c.verdict_line.ensures
