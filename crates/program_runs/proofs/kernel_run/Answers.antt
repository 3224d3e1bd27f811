-- `kernel_run` hands the check's refusal on, or the answer for an accepted program.
use mathlib.Core.Path.{sym, ◌∙◌}
use Rattle.std.proofs.lemmas.Result.{err_from_is_err_and}
use Rattle.program_runs.specs.Runs.{run_result}
use Rattle.program_runs.proofs.kernel_run.Goals as goal

pub run_on_store-requires : goal.run_on_store-requires
run_on_store-requires c = sym c.kernel_check.ensures.value ∙ c.in_ok-kernel_check.was

pub returns-in_err-kernel_check : goal.returns-in_err-kernel_check
unfolding run_result
returns-in_err-kernel_check c = let p = err_from_is_err_and c.from_residual.result c.from_residual.ensures.1 in rw (p.1, p.2, ← c.kernel_check.ensures.value, c.in_err-kernel_check.was)

pub returns : goal.returns
unfolding run_result
returns c = rw (← c.kernel_check.ensures.value, c.in_ok-kernel_check.was) c.run_on_store.ensures
