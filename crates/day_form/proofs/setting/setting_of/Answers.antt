-- `setting_of`: three numbers, or no setting.
use mathlib.Core.Path.{◌∙◌}
use borrow.Author.Tests.{eq-eqb, ne_eqb}
use Rattle.words.specs.Laws.{back}
use Rattle.day_form.specs.Settings.{setting_of}
use Rattle.day_form.proofs.Differences.{three-numbers}
use borrow.Author.Rules.{rules}
use Rattle.day_form.proofs.setting.setting_of.Goals as goal

pub returns-then-numbers-ne3 : goal.returns-then-numbers-ne3
unfolding setting_of
returns-then-numbers-ne3 c =
    rw (ne_eqb _ _ c.if-numbers-ne3.true)

pub returns : goal.returns
returns c =
    rw (back _ c.setting_by-arg-1.given, back _ c.setting_by-arg-2-1.given, back _ c.setting_by-arg-3-1.given) at c.setting_by.ensures ∙ three-numbers _ c.if-numbers-ne3.false
