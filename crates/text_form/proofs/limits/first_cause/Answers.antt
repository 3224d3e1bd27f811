-- `first_cause` tests the header, then the number of rows.
use mathlib.Core.Path.{sym, ◌∙◌}
use Rattle.text_form.specs.Answers.{cause_unless, cause_of}
use Rattle.text_form.proofs.limits.first_cause.Goals as goal

pub returns-then-not-header_fits : goal.returns-then-not-header_fits
unfolding cause_of cause_unless
returns-then-not-header_fits c = rw (sym c.header_fits.ensures ∙ c.if-not-header_fits.true)

pub returns-then-not-count_fits : goal.returns-then-not-count_fits
unfolding cause_of cause_unless
returns-then-not-count_fits c = rw (sym c.header_fits.ensures ∙ c.if-not-header_fits.false, sym c.count_fits.ensures ∙ c.if-not-count_fits.true)

pub returns : goal.returns
unfolding cause_of cause_unless
returns c = rw (sym c.header_fits.ensures ∙ c.if-not-header_fits.false, sym c.count_fits.ensures ∙ c.if-not-count_fits.false)
