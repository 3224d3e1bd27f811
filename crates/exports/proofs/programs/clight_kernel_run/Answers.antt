-- `clight_kernel_run` hands on the entry's answer, as numbers, and the store that it leaves.
use mathlib.Core.Path.{ap, ◌∙◌}
use Rattle.program_runs.specs.Runs.{RunResult}
use Rattle.exports.specs.Numbers.{answer_of}
use borrow.Author.Rules.{rules}
use Rattle.exports.proofs.programs.clight_kernel_run.Goals as goal

pub returns : goal.returns
returns c =
    let result = c.kernel_run.ensures in
    record { value = c.into.ensures ∙ ap (λ (r : RunResult). answer_of r.numbers) result; store_after = ap (λ (r : RunResult). r.store) result }
