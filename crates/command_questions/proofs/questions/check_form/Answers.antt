-- `check_form`: either check.
use borrow.Author.Rules.{rules}
use Rattle.command_questions.proofs.questions.check_form.Goals as goal

pub returns-in-Source : goal.returns-in-Source
returns-in-Source c = rw c.in-Source.is c.check.ensures.value

pub returns-in-Kernel : goal.returns-in-Kernel
returns-in-Kernel c = rw c.in-Kernel.is c.kernel_check.ensures.value
