-- `write`: causes 1, 2 and 10, then the text is put.
use mathlib.Core.Path.{sym, ◌∙◌}
use borrow.Author.Tests.{not-true, not-false, ne_eqb, leb-true}
use Rattle.flat_text.specs.WriterLaws.{Lined, writes-unfit, writes-uneven, lined-filled, lined-whole, writes_short, lined-fills, writes-all}
use borrow.Author.Rules.{rules}
use Rattle.flat_text.proofs.write.Goals as goal
use Rattle.flat_text.proofs.write.Goals.{Else-list-ne0}

pub returns-then-not-header_fits : goal.returns-then-not-header_fits
returns-then-not-header_fits c = writes-unfit _ _ _ (sym c.header_fits.ensures ∙ c.if-not-header_fits.true)

pub returns-then-list-ne0 : goal.returns-then-list-ne0
returns-then-list-ne0 c = writes-uneven _ _ _ (sym c.header_fits.ensures ∙ c.if-not-header_fits.false) (ne_eqb _ _ c.if-list-ne0.true)

-- a header within its limits, and whole lines
lined : (c : Else-list-ne0) → Lined c.args.header.now c.args.list.now
lined c = record { fits = sym c.header_fits.ensures ∙ c.if-not-header_fits.false; even = c.if-list-ne0.false }

pub text_fits-requires : goal.text_fits-requires
text_fits-requires c = record { header_nonzero = lined-filled (lined (goal.at.text_fits-requires c).Else-list-ne0); list_len = lined-whole (lined (goal.at.text_fits-requires c).Else-list-ne0) }

pub returns-then-not-text_fits : goal.returns-then-not-text_fits
returns-then-not-text_fits c = writes_short (lined (goal.at.returns-then-not-text_fits c).Else-list-ne0) _ (sym c.text_fits.ensures ∙ c.if-not-text_fits.true)

pub put_text-requires : goal.put_text-requires
put_text-requires c = lined-fills (lined (goal.at.put_text-requires c).Else-list-ne0) _ (leb-true _ _ (sym c.text_fits.ensures ∙ c.if-not-text_fits.false))

pub returns : goal.returns
returns c = writes-all (lined (goal.at.returns c).Else-list-ne0) _ (sym c.text_fits.ensures ∙ c.if-not-text_fits.false) _ _ c.put_text.ensures
