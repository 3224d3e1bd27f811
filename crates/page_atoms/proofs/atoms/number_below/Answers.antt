-- `number_below`: a number up to the bound, and then below it.
use mathlib.Core.Path.{sym, ◌∙◌}
use Rattle.page_words.specs.Reads.{number_read}
use Rattle.page_words.proofs.FirstBytes.{below_none, below-inside, below-outside}
use Rattle.page_atoms.proofs.atoms.number_below.Goals as goal

pub returns-in_err-value : goal.returns-in_err-value
unfolding number_read
returns-in_err-value c =
    c.from_residual.ensures ∙ below_none _ _ (sym c.in_err-value.was ∙ c.natural_of.ensures)

pub returns-then-value-bound : goal.returns-then-value-bound
unfolding number_read
returns-then-value-bound c =
    below-inside _ _ _ (sym c.in_ok-value.was ∙ c.natural_of.ensures) c.if-value-bound.true

pub returns : goal.returns
unfolding number_read
returns c =
    below-outside _ _ _ (sym c.in_ok-value.was ∙ c.natural_of.ensures) c.if-value-bound.false
