-- `plan_lines`: the first line is the setting's, the others are the day's.
use mathlib.Core.Path.{sym, ◌∙◌}
use Rattle.text_lines.specs.LineLaws.{lines_none}
use Rattle.text_form.proofs.ReaderLaws.{err-is}
use Rattle.day_form.proofs.Tests.{lent-numbers}
use Rattle.day_form.proofs.Plans.{setting-missing, setting-malformed, days-planned, days-refused}
use borrow.Author.Rules.{rules}
use Rattle.day_form.proofs.plan.plan_lines.Goals as goal

pub returns-then-is_empty : goal.returns-then-is_empty
returns-then-is_empty c =
    setting-missing _ _ _ (lines_none _ (search rules))

pub returns-in_default : goal.returns-in_default
returns-in_default c =
    setting-malformed _ _ c.next_line-next.ensures _ (lent-numbers c.next_line-next.ensures.read) (sym c.in_default.is ∙ c.setting_of.ensures)

pub returns-in_err-check_days : goal.returns-in_err-check_days
returns-in_err-check_days c =
    rw (err-is _ _ c.from_residual.ensures.1)
    (days-refused _ _ c.next_line-next.ensures _ (lent-numbers c.next_line-next.ensures.read) _ (sym c.in-Some.is ∙ c.setting_of.ensures) _ (sym c.in_err-check_days.was ∙ c.check_days.ensures))

pub returns : goal.returns
returns c =
    days-planned _ _ c.next_line-next.ensures _ (lent-numbers c.next_line-next.ensures.read) _ (sym c.in-Some.is ∙ c.setting_of.ensures) (sym c.in_ok-check_days.was ∙ c.check_days.ensures)
