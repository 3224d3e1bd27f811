-- `last_refusal` takes the causes of declarations, then those of functions.
use Rattle.check_structure.specs.RefusalLaws.{refused, passed}
use Rattle.check_source.proofs.last_refusal.Goals as goal

pub returns-in_err-declaration_refusal : goal.returns-in_err-declaration_refusal
returns-in_err-declaration_refusal c = refused _ _ _ _ c.from_residual.ensures.1 c.in_err-declaration_refusal.ensures

pub returns : goal.returns
returns c = passed _ _ _ c.in_ok-declaration_refusal.ensures c.functions_refusal.ensures
