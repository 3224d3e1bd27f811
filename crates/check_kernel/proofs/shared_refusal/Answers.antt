-- `shared_refusal` begins with no mark.
use native.Mathlib.Omega.{arith}
use Rattle.words.specs.declared.Form.TheVariants.{Kernel}
use Rattle.check_structure.specs.LinkLaws.{unmarked-zeros}
use borrow.Author.Rules.{rules}
use Rattle.check_kernel.proofs.shared_refusal.Goals as goal

pub structural_refusal-requires : goal.structural_refusal-requires
structural_refusal-requires c = unmarked-zeros Kernel 40980 (omega arith)
