-- `natural_of`: digits that a zero does not lead.
use mathlib.Core.Path.{sym, ap, ◌∙◌}
use Rattle.text_numbers.specs.Reader.{at_most}
use Rattle.text_numbers.proofs.Decimal.{at_most-none, natural-none, natural-led, natural-free, is-empty, is-filled}
use Rattle.text_numbers.proofs.number.natural_of.Goals as goal
use Rattle.text_numbers.proofs.number.natural_of.Goals.{then-is_empty-via-then-is_empty, then-is_empty-via-else-is_empty+then-zero_leads}

pub returns-then-is_empty : goal.returns-then-is_empty
returns-then-is_empty c =
    sym (ap (at_most _) (elim c.then-is_empty.branch [
      | then-is_empty-via-then-is_empty w ↦ natural-none _ (is-empty _ w.if-is_empty.ensures)
      | then-is_empty-via-else-is_empty+then-zero_leads w ↦ natural-led _ w.if-zero_leads.ensures
    ]) ∙ at_most-none _)

pub returns : goal.returns
returns c = c.decimal.ensures ∙ ap (at_most _) (sym (natural-free _ (is-filled _ c.if-is_empty.ensures) c.if-zero_leads.ensures))
