-- `put_check`: the check, and its line.
use mathlib.Core.Path.{ap}
use Rattle.text_numbers.specs.PutLaws.{put_as}
use Rattle.command_lines.specs.Lines.{verdict_line}
use borrow.Author.Rules.{rules}
use Rattle.command_questions.proofs.questions.put_check.Goals as goal

pub returns : goal.returns
returns c = put_as (ap verdict_line c.check_form-verdict.ensures) c.verdict_line.ensures
