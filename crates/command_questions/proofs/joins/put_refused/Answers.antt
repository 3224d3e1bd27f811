-- `put_refused`: the first program's refusal, or that of the second text.
use borrow.Author.Rules.{rules}
use Rattle.command_questions.proofs.joins.put_refused.Goals as goal

pub returns-in-Ok : goal.returns-in-Ok
returns-in-Ok c =
    rw (← c.check-verdict.ensures.value, c.in-Ok.is) c.refused_line.ensures

pub returns-in-Err : goal.returns-in-Err
returns-in-Err c =
    rw (← c.check-verdict.ensures.value, c.in-Err.is) c.refused_line-in-Err.ensures
