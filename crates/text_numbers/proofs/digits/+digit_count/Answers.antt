-- `digit_count` recurs on the tenth.
use mathlib.Core.Path.{sym, ap, ◌∙◌}
use native.Mathlib.Omega.{arith}
use Prim.Native.Nat.{◌+◌, ◌/◌, ℕ}
use Rattle.text_numbers.specs.NumberLaws.{length-one, length_more}
use Rattle.text_numbers.specs.PutLaws.{digits-ten}
use Rattle.text_numbers.proofs.digits.+digit_count.Goals as goal

pub returns-then-n-lt10 : goal.returns-then-n-lt10
returns-then-n-lt10 t c = sym (length-one _ c.if-n-lt10.true)

pub digit_count-requires : goal.digit_count-requires
digit_count-requires t c = (omega arith, omega (arith, c.requires))

pub overflow_add-result : goal.overflow_add-result
overflow_add-result t c = omega (arith, c.digit_count.ensures, digits-ten (c.args.n / 10) (omega (arith, c.requires)))

pub returns : goal.returns
returns t c = ap (λ (k : ℕ). k + 1) c.digit_count.ensures ∙ sym (length_more _ c.if-n-lt10.false)
