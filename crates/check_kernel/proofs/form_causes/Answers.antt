-- `form_causes` takes the causes in order.
use Rattle.check_structure.specs.RefusalLaws.{refused-at, passed-at, last}
use Rattle.check_kernel.specs.Refusal.{form_causes}
use Rattle.check_kernel.proofs.form_causes.Goals as goal

pub returns-in_err-at : goal.returns-in_err-at
unfolding form_causes
returns-in_err-at c = refused-at _ _ _ _ _ _ c.from_residual.ensures.1 c.in_err-at.ensures c.lowest_deep_row.ensures

pub returns-in_err-at-2 : goal.returns-in_err-at-2
unfolding form_causes
returns-in_err-at-2 c =
    passed-at _ _ _ _ _ c.in_ok-at.ensures c.lowest_deep_row.ensures
    (refused-at _ _ _ _ _ _ c.from_residual-in_err-at-2.ensures.1 c.in_err-at-2.ensures c.lowest_not_kernel_form.ensures)

pub returns : goal.returns
unfolding form_causes
returns c =
    passed-at _ _ _ _ _ c.in_ok-at.ensures c.lowest_deep_row.ensures
    (passed-at _ _ _ _ _ c.in_ok-at-2.ensures c.lowest_not_kernel_form.ensures (last _ _ _ _ c.at-3.ensures c.lowest_label_fault.ensures))
