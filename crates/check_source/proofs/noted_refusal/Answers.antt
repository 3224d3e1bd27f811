-- `noted_refusal` takes the causes 7 to 9 in order, then those after 18; each search ends the chain or hands on.
use Rattle.check_structure.specs.RefusalLaws.{refused-at, passed-at}
use Rattle.check_source.specs.Refusal.{later_refusal}
use Rattle.check_source.proofs.noted_refusal.Goals as goal

pub returns-in_err-at : goal.returns-in_err-at
unfolding later_refusal
returns-in_err-at c =
    refused-at _ _ _ _ _ _ c.from_residual.ensures.1 c.in_err-at.ensures c.lowest_wrongly_placed-misplaced.ensures

pub returns-in_err-at-2 : goal.returns-in_err-at-2
unfolding later_refusal
returns-in_err-at-2 c =
    passed-at _ _ _ _ _ c.in_ok-at.ensures c.lowest_wrongly_placed-misplaced.ensures
    (refused-at _ _ _ _ _ _ c.from_residual-in_err-at-2.ensures.1 c.in_err-at-2.ensures c.lowest_repeated.ensures)

pub returns-in_err-at-3 : goal.returns-in_err-at-3
unfolding later_refusal
returns-in_err-at-3 c =
    passed-at _ _ _ _ _ c.in_ok-at.ensures c.lowest_wrongly_placed-misplaced.ensures
    (passed-at _ _ _ _ _ c.in_ok-at-2.ensures c.lowest_repeated.ensures
    (refused-at _ _ _ _ _ _ c.from_residual-in_err-at-3.ensures.1 c.in_err-at-3.ensures c.lowest_deep_by.ensures))

pub returns : goal.returns
unfolding later_refusal
returns c =
    passed-at _ _ _ _ _ c.in_ok-at.ensures c.lowest_wrongly_placed-misplaced.ensures
    (passed-at _ _ _ _ _ c.in_ok-at-2.ensures c.lowest_repeated.ensures
    (passed-at _ _ _ _ _ c.in_ok-at-3.ensures c.lowest_deep_by.ensures c.last_refusal.ensures))
