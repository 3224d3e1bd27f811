-- `shared_refusal` begins with no mark.
use native.Mathlib.Omega.{arith}
use Rattle.words.specs.declared.Form.TheVariants.{Source}
use Rattle.check_structure.specs.LinkLaws.{unmarked-zeros}
use borrow.Author.Rules.{rules}
use Rattle.check_source.proofs.shared_refusal.Goals as goal

pub structural_refusal-requires : goal.structural_refusal-requires
structural_refusal-requires c = unmarked-zeros Source 2048 (omega arith)
