-- `positive`: a value below 2147483648 is a word.
use mathlib.Core.Path.{sym, ap, ◌∙◌}
use Rattle.text_numbers.specs.Number.{positive}
use Rattle.text_numbers.proofs.Decimal.{positive-none, positive-tried}
use Rattle.text_numbers.proofs.number.positive.Goals as goal

pub returns-in_err-digits : goal.returns-in_err-digits
returns-in_err-digits c = c.from_residual.ensures ∙ sym (ap positive c.in_err-digits.was ∙ positive-none)

pub returns : goal.returns
returns c = c.ok.ensures.value ∙ positive-tried _ _ c.try_from.ensures ∙ sym (ap positive c.in_ok-digits.was)
