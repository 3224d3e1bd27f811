-- `hand_earlier` makes its two tests in order.
use borrow.Author.Tests.{eq-eqb, ne_eqb}
use borrow.Author.Rules.{rules}
use Rattle.check_items.proofs.hand_earlier.Goals as goal

pub returns-then-sorted : goal.returns-then-sorted
returns-then-sorted c =
    rw (eq-eqb _ _ c.if-field-eq5.true, c.if-sorted.true) c.narrow.ensures

pub returns-then-field-eq5 : goal.returns-then-field-eq5
returns-then-field-eq5 c =
    rw (eq-eqb _ _ c.if-field-eq5.true, c.if-sorted.false)

pub returns : goal.returns
returns c =
    rw (ne_eqb _ _ c.if-field-eq5.false)
