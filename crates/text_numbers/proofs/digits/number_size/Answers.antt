-- `number_size`: the digits of the size, and a minus sign.
use mathlib.Core.Path.{sym, ap, ◌∙◌}
use native.Mathlib.Omega.{arith}
use Prim.Native.Nat.{ℕ, ◌+◌}
use native.Mathlib.Numerals.{add-one}
use lib.ListN.{length}
use Rattle.text_numbers.specs.PutLaws.{digits-ten}
use Rattle.text_numbers.proofs.Signs.{bytes-negative, bytes-positive, size_small}
use Rattle.text_numbers.proofs.digits.number_size.Goals as goal

pub digit_count-count-requires : goal.digit_count-count-requires
digit_count-count-requires c = omega (arith, (c.from.ensures ∙ c.unsigned_abs.ensures.value), size_small _ c.ranges.number)

pub overflow_add-result : goal.overflow_add-result
overflow_add-result c = omega (arith, c.digit_count-count.ensures, digits-ten c.from.result (omega (arith, (c.from.ensures ∙ c.unsigned_abs.ensures.value), size_small _ c.ranges.number)))

pub returns-then-number-lt0 : goal.returns-then-number-lt0
returns-then-number-lt0 c = ap (λ (n : ℕ). n + 1) c.digit_count-count.ensures ∙ add-one _ ∙ sym (ap length (bytes-negative _ _ c.ranges.number (c.from.ensures ∙ c.unsigned_abs.ensures.value) c.if-number-lt0.true))

pub returns : goal.returns
returns c = c.digit_count-count.ensures ∙ sym (ap length (bytes-positive _ _ c.ranges.number (c.from.ensures ∙ c.unsigned_abs.ensures.value) c.if-number-lt0.false))
