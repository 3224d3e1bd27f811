-- `check` takes the causes that both forms share, and then the kernel's own, for which the rows make a tree.
use mathlib.Core.Path.{sym}
use borrow.Author.Rules.{rules}
use Rattle.words.specs.declared.Form.TheVariants.{Kernel}
use Rattle.check_structure.specs.RefusalLaws.{refused, passed}
use Rattle.check_structure.specs.StructuredLaws.{accepted-structured, structured-tree}
use Rattle.check_function_causes.proofs.FrontLaws.{block-undefined}
use Rattle.check_kernel.specs.Accepts.{structured-lone, structured-labels}
use Rattle.check_kernel.specs.Refusal.{refusal}
use Rattle.check_kernel.proofs.check.Goals as goal

pub returns-in_err-shared_refusal : goal.returns-in_err-shared_refusal
unfolding refusal
returns-in_err-shared_refusal c = refused _ _ _ _ c.from_residual.ensures.1 c.in_err-shared_refusal.ensures

pub kernel_causes-requires : goal.kernel_causes-requires
kernel_causes-requires c =
    let s = (accepted-structured Kernel _ _ (sym c.in_ok-shared_refusal.ensures)).1 in
    (structured-tree Kernel _ _ s, structured-lone _ _ s, structured-labels _ _ s, block-undefined _ 0 s.block)

pub returns : goal.returns
unfolding refusal
returns c = passed _ _ _ c.in_ok-shared_refusal.ensures c.kernel_causes.ensures
