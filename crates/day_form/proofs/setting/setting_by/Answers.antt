-- `setting_by`: the difference is a word, or too large for one.
use Rattle.std.specs.Prelude.{Result}
use Rattle.words.specs.declared.FaultSort.{FaultSort}
use mathlib.Core.Path.{◌≡◌, sym, ap, ap₂, ◌∙◌}
use native.Mathlib.Omega.{arith}
use Rattle.words.specs.Laws.{back}
use lib.IntN.{ℤ}
use Rattle.words.specs.Word.{natural}
use Rattle.arithmetic.specs.Arithmetic.{apply}
use Rattle.words.specs.declared.Operator.TheVariants.{Subtract}
use Rattle.words.proofs.Signed.{again, natural-again}
use Rattle.day_form.proofs.Differences.{Gap, overflows, gap_of, too-many, is-setting}
use borrow.Author.Rules.{rules}
use Rattle.day_form.proofs.setting.setting_by.Goals as goal
use Rattle.day_form.proofs.setting.setting_by.Goals.{Start}

-- the difference of the words that were handed on
said : (c : Start) (outcome : Result ℤ FaultSort) → outcome ≡ apply Subtract (again c.args.highest) (again c.args.lowest) → outcome ≡ apply Subtract c.args.highest c.args.lowest
said c outcome e = e ∙ ap₂ (apply Subtract) (back _ c.ranges.highest.sfits) (back _ c.ranges.lowest.sfits)

pub returns-in_default : goal.returns-in_default
returns-in_default c =
    overflows _ _ _ _ ((sym c.in_default.is) ∙ said (goal.at.returns-in_default c).Start _ c.subtract.ensures)

pub returns-then-more-ge100 : goal.returns-then-more-ge100
returns-then-more-ge100 c =
    let g = gap_of _ _ _ _ ((sym c.in-Ok.is) ∙ said (goal.at.returns-then-more-ge100 c).Start _ c.subtract.ensures) in
    let n : c.natural-more.result ≡ natural c.in-Ok.gap = natural-again _ _ g.word c.natural-more.ensures in
    too-many _ _ _ g (omega (arith, c.if-more-ge100.true))

pub returns : goal.returns
returns c =
    let g = gap_of _ _ _ _ ((sym c.in-Ok.is) ∙ said (goal.at.returns c).Start _ c.subtract.ensures) in
    let n : c.natural-more.result ≡ natural c.in-Ok.gap = natural-again _ _ g.word c.natural-more.ensures in
    rw (back _ c.ranges.lowest.sfits) (is-setting _ _ _ g _ n (omega (arith, c.if-more-ge100.false)) _ (natural-again _ _ c.ranges.variable.sfits c.natural.ensures))
