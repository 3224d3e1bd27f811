-- `fits` makes its definition's tests in order.
use borrow.Author.Tests.{eq-eqb, ne_eqb}
use Rattle.words.specs.Links.{fits}
use borrow.Author.Rules.{rules}
use Rattle.check_fields.proofs.fields.fits.Goals as goal

pub returns-then-sort-eq-OPERAND : goal.returns-then-sort-eq-OPERAND
unfolding fits
returns-then-sort-eq-OPERAND c =
    rw (eq-eqb _ _ c.if-sort-eq-OPERAND.true) c.is_expression.ensures

pub returns-then-sort-eq-OPTIONAL : goal.returns-then-sort-eq-OPTIONAL
unfolding fits
returns-then-sort-eq-OPTIONAL c =
    rw (ne_eqb _ _ c.if-sort-eq-OPERAND.false, eq-eqb _ _ c.if-sort-eq-OPTIONAL.true) c.is_expression-then-sort-eq-OPTIONAL.ensures

pub returns-then-sort-eq-PLACE : goal.returns-then-sort-eq-PLACE
unfolding fits
returns-then-sort-eq-PLACE c =
    rw (ne_eqb _ _ c.if-sort-eq-OPERAND.false, ne_eqb _ _ c.if-sort-eq-OPTIONAL.false, eq-eqb _ _ c.if-sort-eq-PLACE.true) c.is_place.ensures

pub returns-then-sort-eq-ITEM : goal.returns-then-sort-eq-ITEM
unfolding fits
returns-then-sort-eq-ITEM c =
    rw (ne_eqb _ _ c.if-sort-eq-OPERAND.false, ne_eqb _ _ c.if-sort-eq-OPTIONAL.false, ne_eqb _ _ c.if-sort-eq-PLACE.false, eq-eqb _ _ c.if-sort-eq-ITEM.true) c.is_statement.ensures

pub returns : goal.returns
unfolding fits
returns c =
    rw (ne_eqb _ _ c.if-sort-eq-OPERAND.false, ne_eqb _ _ c.if-sort-eq-OPTIONAL.false, ne_eqb _ _ c.if-sort-eq-PLACE.false, ne_eqb _ _ c.if-sort-eq-ITEM.false) c.fits_part.ensures
