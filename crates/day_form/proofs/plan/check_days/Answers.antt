-- `check_days`: what `first_line` finds for 21, then what `first_outside` finds for 22.
use Rattle.std.specs.Prelude.{Ok}
use mathlib.Core.Path.{sym, ap, ◌∙◌}
use Rattle.text_form.proofs.ReaderLaws.{err-is}
use Rattle.day_form.specs.Plans.{refused_at, days_verdict}
use Rattle.day_form.proofs.Plans.{handed-on, passed-on}
use borrow.Author.Rules.{rules}
use Rattle.day_form.proofs.plan.check_days.Goals as goal

pub returns-in_err-turned_away : goal.returns-in_err-turned_away
unfolding days_verdict
returns-in_err-turned_away c =
    err-is _ _ c.from_residual.ensures.1 ∙ handed-on 21 _ _ _ _ (sym c.in_err-turned_away.was ∙ c.turned_away.ensures) c.first_line-malformed.ensures

pub returns : goal.returns
unfolding days_verdict
returns c =
    c.turned_away-2.ensures ∙ ap (λ found. refused_at 22 found (Ok tt)) c.first_outside-outside.ensures
    ∙ sym (passed-on 21 _ _ _ (sym c.in_ok-turned_away.was ∙ c.turned_away.ensures) c.first_line-malformed.ensures)
