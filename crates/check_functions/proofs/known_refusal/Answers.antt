-- `known_refusal` takes the causes in order.
use Rattle.check_structure.specs.RefusalLaws.{refused-at, passed-at}
use Rattle.check_function_causes.specs.Causes.{function_refusal}
use Rattle.check_functions.specs.Passes.{breaks}
use Rattle.check_functions.proofs.known_refusal.Goals as goal

pub returns-in_err-at : goal.returns-in_err-at
unfolding function_refusal breaks
returns-in_err-at c =
    refused-at _ _ _ _ _ _ c.from_residual.ensures.1 c.in_err-at.ensures c.lowest_breaking-disordered.ensures

pub returns : goal.returns
unfolding function_refusal breaks
returns c =
    passed-at _ _ _ _ _ c.in_ok-at.ensures c.lowest_breaking-disordered.ensures (rw c.lowest_breaking.ensures at c.at-2.ensures)
