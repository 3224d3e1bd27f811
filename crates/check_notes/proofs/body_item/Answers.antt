-- `body_item` makes its tests in order.
use borrow.Author.Tests.{eq-eqb, ne_eqb}
use Rattle.check_notes.proofs.body_item.Goals as goal

pub returns-then-field-eq1 : goal.returns-then-field-eq1
returns-then-field-eq1 c = rw (c.if-block.true, eq-eqb _ _ c.if-field-eq1.true)

pub returns-then-block : goal.returns-then-block
returns-then-block c = rw (c.if-block.true, ne_eqb _ _ c.if-field-eq1.false)

pub returns-then-field-eq5 : goal.returns-then-field-eq5
returns-then-field-eq5 c = rw (c.if-block.false, eq-eqb _ _ c.if-field-eq5.true)

pub returns : goal.returns
returns c = rw (c.if-block.false, ne_eqb _ _ c.if-field-eq5.false)
