-- `read_numbers`: the numbers are counted, and stored where they are few.
use mathlib.Core.Path.{sym, ap, ◌∙◌}
use native.Mathlib.Omega.{arith}
use Rattle.text_lines.specs.CountLaws.{counted-fits}
use Rattle.text_lines.specs.CountLaws.{size_none, size-some}
use Rattle.day_form.proofs.Numbers.{malformed-read, many_read, few-read}
use borrow.Author.Rules.{rules}
use Rattle.day_form.proofs.lines.read_numbers.Goals as goal

pub returns-in_default : goal.returns-in_default
returns-in_default c =
    malformed-read _ _ (size_none _ (sym c.in_default.is ∙ c.count_numbers.ensures))

pub returns-then-count-gt32 : goal.returns-then-count-gt32
returns-then-count-gt32 c =
    many_read _ (size-some _ _ (sym c.in-Some.is ∙ c.count_numbers.ensures)) _ c.if-count-gt32.true

pub store_numbers-requires : goal.store_numbers-requires
store_numbers-requires c =
    counted-fits _ _ _ _ c.count_numbers.ensures c.in-Some.is (omega (arith, c.if-count-gt32.false, c.requires))

pub returns : goal.returns
returns c =
    few-read _ (size-some _ _ (sym c.in-Some.is ∙ c.count_numbers.ensures)) _ _ c.if-count-gt32.false c.store_numbers.ensures
