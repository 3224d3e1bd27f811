-- `fits_part` makes its definition's tests in order.
use borrow.Author.Tests.{eq-eqb, ne_eqb}
use borrow.Author.Rules.{rules}
use Rattle.check_fields.proofs.fields.fits_part.Goals as goal

pub returns-then-sort-eq-ARM : goal.returns-then-sort-eq-ARM
returns-then-sort-eq-ARM c =
    rw (eq-eqb _ _ c.if-sort-eq-ARM.true) c.is_arm.ensures

pub returns-then-sort-eq-ARGUMENT : goal.returns-then-sort-eq-ARGUMENT
returns-then-sort-eq-ARGUMENT c =
    rw (ne_eqb _ _ c.if-sort-eq-ARM.false, eq-eqb _ _ c.if-sort-eq-ARGUMENT.true) c.is_argument.ensures

pub returns-then-sort-eq-PARAMETER : goal.returns-then-sort-eq-PARAMETER
returns-then-sort-eq-PARAMETER c =
    rw (ne_eqb _ _ c.if-sort-eq-ARM.false, ne_eqb _ _ c.if-sort-eq-ARGUMENT.false, eq-eqb _ _ c.if-sort-eq-PARAMETER.true) c.is_declaration.ensures

pub returns-then-sort-eq-ABSENT : goal.returns-then-sort-eq-ABSENT
returns-then-sort-eq-ABSENT c =
    rw (ne_eqb _ _ c.if-sort-eq-ARM.false, ne_eqb _ _ c.if-sort-eq-ARGUMENT.false, ne_eqb _ _ c.if-sort-eq-PARAMETER.false, eq-eqb _ _ c.if-sort-eq-ABSENT.true)

pub returns-then-is_body : goal.returns-then-is_body
returns-then-is_body c =
    rw (ne_eqb _ _ c.if-sort-eq-ARM.false, ne_eqb _ _ c.if-sort-eq-ARGUMENT.false, ne_eqb _ _ c.if-sort-eq-PARAMETER.false, ne_eqb _ _ c.if-sort-eq-ABSENT.false, ← c.before.before.is_body.ensures, c.if-is_body.true, ← c.number_at.ensures)

pub returns : goal.returns
returns c =
    rw (ne_eqb _ _ c.if-sort-eq-ARM.false, ne_eqb _ _ c.if-sort-eq-ARGUMENT.false, ne_eqb _ _ c.if-sort-eq-PARAMETER.false, ne_eqb _ _ c.if-sort-eq-ABSENT.false, ← c.before.is_body.ensures, c.if-is_body.false)
