-- `text_cause`: 1, where the header is outside its limits.
use mathlib.Core.Path.{sym, ◌∙◌}
use Rattle.flat_text.specs.ReaderLaws.{cause-fits, cause-unfit}
use Rattle.flat_text.proofs.reader.text_cause.Goals as goal

pub first_fits-requires : goal.first_fits-requires
first_fits-requires c = c.requires

pub returns-then-first_fits : goal.returns-then-first_fits
returns-then-first_fits c = sym (cause-fits _ (sym c.first_fits.ensures ∙ c.if-first_fits.true))

pub returns : goal.returns
returns c = sym (cause-unfit _ (sym c.first_fits.ensures ∙ c.if-first_fits.false))
