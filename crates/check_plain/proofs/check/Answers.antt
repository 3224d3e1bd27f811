-- `check` takes the kernel check's causes, and then 25.
use Rattle.check_structure.specs.RefusalLaws.{last, refused, passed}
use Rattle.check_plain.specs.Refusal.{plain_refusal}
use Rattle.check_plain.proofs.check.Goals as goal

pub returns-in_err-check : goal.returns-in_err-check
unfolding plain_refusal
returns-in_err-check c = refused _ _ _ _ c.from_residual.ensures.1 c.in_err-check.ensures

pub returns : goal.returns
unfolding plain_refusal
returns c = passed _ _ _ c.in_ok-check.ensures (last _ _ _ _ c.at.ensures c.lowest_definition.ensures)
