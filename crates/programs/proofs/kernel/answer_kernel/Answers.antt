-- `answer_kernel`: the check accepted the program.
use mathlib.Core.Path.{sym, ◌∙◌}
use borrow.Author.Rules.{rules}
use Rattle.programs.proofs.kernel.answer_kernel.Goals as goal

pub answer_legal-requires : goal.answer_legal-requires
answer_legal-requires g c = sym c.kernel_check-verdict.ensures.value ∙ c.in-Ok.is
