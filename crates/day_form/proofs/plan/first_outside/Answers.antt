-- `first_outside`: the setting's own line, or the first day line that `first_line` finds.
use mathlib.Core.Path.{◌∙◌}
use Rattle.day_form.proofs.Plans.{setting-outside, setting-inside}
use borrow.Author.Rules.{rules}
use Rattle.day_form.proofs.plan.first_outside.Goals as goal

pub returns-then-variable-variables : goal.returns-then-variable-variables
returns-then-variable-variables c =
    setting-outside _ _ _ _ c.if-variable-variables.true

pub returns : goal.returns
returns c =
    c.first_line.ensures ∙ setting-inside _ _ _ _ c.if-variable-variables.false
