-- `rows_refusal` takes 9 and 20 in order.
use Rattle.check_structure.specs.RefusalLaws.{refused-at, passed-at}
use Rattle.join.specs.Join.{rows_refusal}
use Rattle.joiner.proofs.causes.rows_refusal.Goals as goal

pub returns-in_err-at : goal.returns-in_err-at
unfolding rows_refusal
returns-in_err-at c = refused-at _ _ _ _ _ _ c.from_residual.ensures.1 c.in_err-at.ensures c.lowest_deep_by.ensures

pub returns : goal.returns
unfolding rows_refusal
returns c = passed-at _ _ _ _ _ c.in_ok-at.ensures c.lowest_deep_by.ensures (rw c.lowest_too_many.ensures at c.at-2.ensures)
