-- `inside` makes its two tests in order.
use borrow.Author.Tests.{eq-eqb, ne_eqb}
use Rattle.check_notes.proofs.inside.Goals as goal

pub returns-then-field-eq5 : goal.returns-then-field-eq5
returns-then-field-eq5 c =
    rw (eq-eqb _ _ c.if-field-eq5.true)

pub returns-then-around : goal.returns-then-around
returns-then-around c =
    rw (ne_eqb _ _ c.if-field-eq5.false, c.if-around.true)

pub returns : goal.returns
returns c =
    rw (ne_eqb _ _ c.if-field-eq5.false, c.if-around.false)
