-- `assign` stores a value, or hands the fault on.
use Rattle.std.specs.Prelude.{Err, Ok, Result}
use mathlib.Core.Path.{◌≡◌, refl, sym, ap, ◌∙◌}
use mathlib.Core.List.{List}
use lib.IntN.{ℤ}
use lib.Signed.{mag}
use Prim.Native.Nat.{◌^◌, ◌<◌}
use native.Mathlib.Omega.{arith}
use Rattle.words.specs.Laws.{back}
use Rattle.words.specs.declared.FaultSort.{FaultSort}
use Rattle.flat.specs.Lines.{stored, onward}
use Rattle.flat_steps.proofs.Handed.{again, assigned, failed, made_so}
use borrow.Author.Rules.{rules}
use Rattle.flat_steps.proofs.operands.assign.Goals as goal

pub returns-in_err-value : goal.returns-in_err-value
returns-in_err-value c =
    failed c.args.store.now _ _ c.from_residual.ensures.1 _
    (made_so c.args.store.now _ c.args.store.now (onward c.args.line (stored c.args.target c.args.store.now (Err c.in_err-value.field-0.0))) _ (refl, refl)
    (ap (λ (r : Result ℤ FaultSort). onward c.args.line (stored c.args.target c.args.store.now r)) (sym c.in_err-value.was)))

pub returns : goal.returns
returns c =
    let fits : mag c.in_ok-value.value < 2 ^ 31 = omega arith in
    let same : Ok (again c.in_ok-value.value) ≡ c.args.computed = ap Ok (back c.in_ok-value.value fits) ∙ sym c.in_ok-value.was in
    made_so _ _ _ _ _ (assigned c.args.store.now c.args.line c.args.target (again c.in_ok-value.value) c.store_word.result c.store_word.new.store c.store_word.ensures)
    (ap (λ (r : Result ℤ FaultSort). onward c.args.line (stored c.args.target c.args.store.now r)) same)
