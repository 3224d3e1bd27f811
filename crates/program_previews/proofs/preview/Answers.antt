-- `preview` hands the check's refusal on, or the preview of an accepted program.
use mathlib.Core.Path.{sym, ◌∙◌}
use Rattle.std.proofs.lemmas.Result.{err_from_is_err_and}
use Rattle.program_runs.specs.Runs.{run_result}
use Rattle.program_previews.specs.Previews.{preview_result}
use Rattle.program_previews.proofs.preview.Goals as goal

pub preview_accepted-requires : goal.preview_accepted-requires
preview_accepted-requires c = sym c.check.ensures.value ∙ c.in_ok-check.was

pub returns-in_err-check : goal.returns-in_err-check
unfolding preview_result run_result
returns-in_err-check c = let p = err_from_is_err_and c.from_residual.result c.from_residual.ensures.1 in rw (p.1, p.2, ← c.check.ensures.value, c.in_err-check.was)

pub returns : goal.returns
unfolding preview_result run_result
returns c = rw (← c.check.ensures.value, c.in_ok-check.was) c.preview_accepted.ensures
