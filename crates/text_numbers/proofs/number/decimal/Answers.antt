-- `decimal` passes the digits one by one; the invariant is `Valued`.
use mathlib.Core.Path.{sym, ◌∙◌}
use native.Mathlib.Omega.{arith}
use Rattle.text_numbers.specs.Number.{is_digit}
use Rattle.text_numbers.proofs.Decimal.{valued-end, valued-stop, valued-over, valued-next}
use Rattle.text_numbers.proofs.number.decimal.Goals as goal

pub returns-then-not-is_ascii_digit : goal.returns-then-not-is_ascii_digit
unfolding is_digit
returns-then-not-is_ascii_digit c = valued-stop c.loop-byte.invariant c.loop-byte-test.true (sym c.is_ascii_digit.ensures.value ∙ c.if-not-is_ascii_digit.true)

pub returns-then-value-from : goal.returns-then-value-from
unfolding is_digit
returns-then-value-from c = valued-over c.loop-byte.invariant c.loop-byte-test.true (sym c.is_ascii_digit.ensures.value ∙ c.if-not-is_ascii_digit.false) _ c.from.ensures (omega arith)

pub loop-byte-preserved : goal.loop-byte-preserved
unfolding is_digit
loop-byte-preserved c = valued-next c.loop-byte.invariant c.loop-byte-test.true (sym c.is_ascii_digit.ensures.value ∙ c.if-not-is_ascii_digit.false) _ c.from.ensures (omega arith)

pub returns : goal.returns
returns c = valued-end c.loop-byte.invariant c.loop-byte-test.false
