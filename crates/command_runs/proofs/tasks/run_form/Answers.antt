-- `run_form`: either run.
use borrow.Author.Rules.{rules}
use Rattle.command_runs.proofs.tasks.run_form.Goals as goal

pub returns-in-Source : goal.returns-in-Source
returns-in-Source c = rw c.in-Source.is c.run.ensures

pub returns-in-Kernel : goal.returns-in-Kernel
returns-in-Kernel c = rw c.in-Kernel.is c.kernel_run.ensures
