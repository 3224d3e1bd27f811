-- `flat_run` hands the check's refusal on, or the answer for an accepted list.
use Rattle.std.specs.Prelude.{Err, Ok, Result}
use Rattle.std.specs.Result.{IsErrAnd}
use Rattle.flat.specs.Results.{flat_result}
use borrow.Author.Rules.{rules}
use mathlib.Core.Path.{◌≡◌, sym, ap, ◌∙◌}
use Rattle.flat_machine.proofs.whole.flat_run.Goals as goal

-- what `?` hands on
handed-on : {T E : Type 0} (r : Result T E) (e : E) → IsErrAnd r (λ d. d ≡ e) → r ≡ Err e
handed-on (Ok x) e h = absurd h
handed-on (Err d) e h = ap Err h

pub run_on_store-requires : goal.run_on_store-requires
run_on_store-requires c = sym c.check.ensures ∙ c.in_ok-check.was

pub returns : goal.returns
unfolding flat_result
returns c = rw (← c.check.ensures, c.in_ok-check.was) c.run_on_store.ensures

pub returns-in_err-check : goal.returns-in_err-check
unfolding flat_result
returns-in_err-check c = rw (handed-on _ _ c.from_residual.ensures.1, ← c.check.ensures, c.in_err-check.was)
