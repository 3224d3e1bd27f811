-- `join_refusal` takes the causes of both programs, then those of the join.
use Rattle.std.proofs.Common.{sym}
use Rattle.check_structure.specs.RefusalLaws.{refused, passed}
use Rattle.joiner.proofs.causes.join_refusal.Goals as goal

pub returns-in_err-check : goal.returns-in_err-check
returns-in_err-check c = refused _ _ _ _ c.from_residual.ensures.1 c.in_err-check.ensures

pub returns-in_err-check-2 : goal.returns-in_err-check-2
returns-in_err-check-2 c = passed _ _ _ c.in_ok-check.ensures (refused _ _ _ _ c.from_residual-in_err-check-2.ensures.1 c.in_err-check-2.ensures)

pub own_refusal-requires : goal.own_refusal-requires
own_refusal-requires c = (sym c.in_ok-check.ensures, sym c.in_ok-check-2.ensures)

pub returns : goal.returns
returns c = passed _ _ _ c.in_ok-check.ensures (passed _ _ _ c.in_ok-check-2.ensures c.own_refusal.ensures)
