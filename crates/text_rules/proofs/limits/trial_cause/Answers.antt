-- `trial_cause` tests the header, the size of the store, then the number of row words.
use mathlib.Core.Path.{sym, ◌∙◌}
use native.Mathlib.Omega.{arith}
use borrow.Author.Tests.{le-leb, lt-leb}
use Rattle.words.specs.Layout.{layout_of, store_size}
use Rattle.words.specs.declared.Form.TheVariants.{Source}
use Rattle.text_form.specs.Answers.{cause_unless}
use Rattle.text_rules.specs.Rules.{trial_cause}
use Rattle.text_rules.proofs.limits.trial_cause.Goals as goal

pub returns-then-not-header_fits : goal.returns-then-not-header_fits
unfolding trial_cause cause_unless
returns-then-not-header_fits c = rw (sym c.header_fits.ensures ∙ c.if-not-header_fits.true)

pub store_size-requires : goal.store_size-requires
store_size-requires c = sym c.header_fits.ensures ∙ c.if-not-header_fits.false

pub returns-then-store_size-gt1024 : goal.returns-then-store_size-gt1024
unfolding trial_cause cause_unless
returns-then-store_size-gt1024 c = rw (sym c.header_fits.ensures ∙ c.if-not-header_fits.false, lt-leb (store_size (layout_of Source c.args.header.now)) 1024 (omega (arith, c.store_size.ensures, c.if-store_size-gt1024.true)))

pub returns-then-not-count_fits : goal.returns-then-not-count_fits
unfolding trial_cause cause_unless
returns-then-not-count_fits c = rw (sym c.header_fits.ensures ∙ c.if-not-header_fits.false, le-leb (store_size (layout_of Source c.args.header.now)) 1024 (omega (arith, c.store_size.ensures, c.if-store_size-gt1024.false)), sym c.count_fits.ensures ∙ c.if-not-count_fits.true)

pub returns-then-row_words-gt768 : goal.returns-then-row_words-gt768
unfolding trial_cause cause_unless
returns-then-row_words-gt768 c = rw (sym c.header_fits.ensures ∙ c.if-not-header_fits.false, le-leb (store_size (layout_of Source c.args.header.now)) 1024 (omega (arith, c.store_size.ensures, c.if-store_size-gt1024.false)), sym c.count_fits.ensures ∙ c.if-not-count_fits.false, lt-leb c.args.row_words 768 c.if-row_words-gt768.true)

pub returns : goal.returns
unfolding trial_cause cause_unless
returns c = rw (sym c.header_fits.ensures ∙ c.if-not-header_fits.false, le-leb (store_size (layout_of Source c.args.header.now)) 1024 (omega (arith, c.store_size.ensures, c.if-store_size-gt1024.false)), sym c.count_fits.ensures ∙ c.if-not-count_fits.false, le-leb c.args.row_words 768 c.if-row_words-gt768.false)
