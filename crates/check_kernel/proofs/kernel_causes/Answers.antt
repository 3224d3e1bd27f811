-- `kernel_causes` takes the causes in order.
use Rattle.check_structure.specs.RefusalLaws.{refused, passed, refused-at, passed-at}
use Rattle.check_kernel.specs.Refusal.{kernel_causes}
use Rattle.check_kernel.proofs.kernel_causes.Goals as goal

pub returns-in_err-at : goal.returns-in_err-at
unfolding kernel_causes
returns-in_err-at c = refused-at _ _ _ _ _ _ c.from_residual.ensures.1 c.in_err-at.ensures c.lowest_return_outside.ensures

pub returns-in_err-form_causes : goal.returns-in_err-form_causes
unfolding kernel_causes
returns-in_err-form_causes c =
    passed-at _ _ _ _ _ c.in_ok-at.ensures c.lowest_return_outside.ensures (refused _ _ _ _ c.from_residual-in_err-form_causes.ensures.1 c.in_err-form_causes.ensures)

pub returns-in_err-at-2 : goal.returns-in_err-at-2
unfolding kernel_causes
returns-in_err-at-2 c =
    passed-at _ _ _ _ _ c.in_ok-at.ensures c.lowest_return_outside.ensures
    (passed _ _ _ c.in_ok-form_causes.ensures (refused-at _ _ _ _ _ _ c.from_residual-in_err-at-2.ensures.1 c.in_err-at-2.ensures c.lowest_parameter_twice.ensures))

pub returns : goal.returns
unfolding kernel_causes
returns c =
    passed-at _ _ _ _ _ c.in_ok-at.ensures c.lowest_return_outside.ensures
    (passed _ _ _ c.in_ok-form_causes.ensures (passed-at _ _ _ _ _ c.in_ok-at-2.ensures c.lowest_parameter_twice.ensures c.functions_refusal.ensures))
