-- `negative`: a value from 1 to 2147483648 is a word after a minus sign.
use mathlib.Core.Path.{sym, ap, ◌∙◌}
use native.Mathlib.Omega.{arith}
use Rattle.text_numbers.specs.Number.{negative}
use Rattle.text_numbers.proofs.Signs.{minus}
use Rattle.text_numbers.proofs.Decimal.{negative-none, negative-zero, negative-tried}
use Rattle.text_numbers.proofs.number.negative.Goals as goal

pub returns-in_err-value : goal.returns-in_err-value
returns-in_err-value c = c.from_residual.ensures ∙ sym (ap negative c.in_err-value.was ∙ negative-none)

pub returns-then-value-eq0 : goal.returns-then-value-eq0
returns-then-value-eq0 c = sym (ap negative c.in_ok-value.was ∙ negative-zero _ c.if-value-eq0.true)

pub returns : goal.returns
returns c =
    c.ok.ensures.value
    ∙ negative-tried c.in_ok-value.value _ _ (omega arith) (minus _ _ (omega arith) (omega arith) c.from.ensures) c.try_from.ensures
    ∙ sym (ap negative c.in_ok-value.was)
