-- `is_required` makes its definition's four tests in order.
use borrow.Author.Tests.{eq-eqb, ne_eqb}
use Rattle.words.specs.Kinds.{is_required}
use Rattle.check_grammar.proofs.is_required.Goals as goal

pub returns-then-sort-eq-OPERAND : goal.returns-then-sort-eq-OPERAND
unfolding is_required
returns-then-sort-eq-OPERAND c =
    rw (eq-eqb _ _ c.if-sort-eq-OPERAND.true)

pub returns-then-sort-eq-PLACE : goal.returns-then-sort-eq-PLACE
unfolding is_required
returns-then-sort-eq-PLACE c =
    rw (ne_eqb _ _ c.if-sort-eq-OPERAND.false, eq-eqb _ _ c.if-sort-eq-PLACE.true)

pub returns-then-sort-eq-BODY : goal.returns-then-sort-eq-BODY
unfolding is_required
returns-then-sort-eq-BODY c =
    rw (ne_eqb _ _ c.if-sort-eq-OPERAND.false, ne_eqb _ _ c.if-sort-eq-PLACE.false, eq-eqb _ _ c.if-sort-eq-BODY.true)

pub returns : goal.returns
unfolding is_required
returns c =
    rw (ne_eqb _ _ c.if-sort-eq-OPERAND.false, ne_eqb _ _ c.if-sort-eq-PLACE.false, ne_eqb _ _ c.if-sort-eq-BODY.false)
