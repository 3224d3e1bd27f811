-- `later_causes` takes cause 5, then what the pass found.
use mathlib.Core.Path.{refl}
use Rattle.check_structure.specs.Passes.{later_causes}
use Rattle.check_structure.specs.RefusalLaws.{refused-at, passed-at}
use Rattle.check_structure.proofs.causes.later_causes.Goals as goal

pub returns-in_err-at : goal.returns-in_err-at
unfolding later_causes
returns-in_err-at c =
    refused-at _ _ _ _ _ _ c.from_residual.ensures.1 c.in_err-at.ensures c.lowest_not_once.ensures

pub returns : goal.returns
unfolding later_causes
returns c = passed-at _ _ _ _ _ c.in_ok-at.ensures c.lowest_not_once.ensures refl
