-- `number_fits` makes its definition's tests in order.
use borrow.Author.Tests.{eq-eqb, ne_eqb}
use borrow.Author.Rules.{rules}
use Rattle.check_fields.specs.Fields.{number_fits}
use Rattle.check_fields.proofs.fields.number_fits.Goals as goal

pub returns-then-sort-eq-VARIABLE : goal.returns-then-sort-eq-VARIABLE
unfolding number_fits
returns-then-sort-eq-VARIABLE c =
    rw (eq-eqb _ _ c.if-sort-eq-VARIABLE.true) c.variable_fits.ensures

pub returns-then-sort-eq-DECLARED : goal.returns-then-sort-eq-DECLARED
unfolding number_fits
returns-then-sort-eq-DECLARED c =
    rw (ne_eqb _ _ c.if-sort-eq-VARIABLE.false, eq-eqb _ _ c.if-sort-eq-DECLARED.true) c.declared_fits.ensures

pub returns-then-sort-eq-ARRAY : goal.returns-then-sort-eq-ARRAY
unfolding number_fits
returns-then-sort-eq-ARRAY c =
    rw (ne_eqb _ _ c.if-sort-eq-VARIABLE.false, ne_eqb _ _ c.if-sort-eq-DECLARED.false, eq-eqb _ _ c.if-sort-eq-ARRAY.true)

pub returns-then-sort-eq-LABEL : goal.returns-then-sort-eq-LABEL
unfolding number_fits
returns-then-sort-eq-LABEL c =
    rw (ne_eqb _ _ c.if-sort-eq-VARIABLE.false, ne_eqb _ _ c.if-sort-eq-DECLARED.false, ne_eqb _ _ c.if-sort-eq-ARRAY.false, eq-eqb _ _ c.if-sort-eq-LABEL.true)

pub returns : goal.returns
unfolding number_fits
returns c =
    rw (ne_eqb _ _ c.if-sort-eq-VARIABLE.false, ne_eqb _ _ c.if-sort-eq-DECLARED.false, ne_eqb _ _ c.if-sort-eq-ARRAY.false, ne_eqb _ _ c.if-sort-eq-LABEL.false)
