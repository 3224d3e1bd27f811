-- `put_writes`: the lines of the sets, or the refusal.
use native.Mathlib.Omega.{arith}
use mathlib.Core.Path.{subst}
use Rattle.text_numbers.specs.PutLaws.{put_as}
use Rattle.write_sets_entry.specs.Told.{Told}
use Rattle.command_questions.proofs.ToldLines.{told-lines, told-refused}
use borrow.Author.Rules.{rules}
use Rattle.command_questions.proofs.questions.put_writes.Goals as goal

pub put_sets-requires : goal.put_sets-requires
put_sets-requires c = omega (arith, c.requires)

pub refused_line-requires : goal.refused_line-requires
refused_line-requires c = omega (arith, c.requires)

pub returns-in-Ok : goal.returns-in-Ok
returns-in-Ok c = put_as (told-lines (rw c.in-Ok.is at c.writes_of-verdict.ensures)) c.put_sets.ensures

pub returns-in-Err : goal.returns-in-Err
returns-in-Err c = put_as (told-refused (rw c.in-Err.is at c.writes_of-verdict.ensures)) c.refused_line.ensures
