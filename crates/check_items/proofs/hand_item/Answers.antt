-- `hand_item` makes its three tests in order.
use borrow.Author.Tests.{eq-eqb, ne_eqb}
use borrow.Author.Rules.{rules}
use Rattle.check_items.specs.Items.{item_of}
use Rattle.check_items.proofs.hand_item.Goals as goal

pub returns-then-field-eq5 : goal.returns-then-field-eq5
unfolding item_of
returns-then-field-eq5 c =
    rw (eq-eqb _ _ c.if-field-eq5.true)

pub returns-then-field-part : goal.returns-then-field-part
unfolding item_of
returns-then-field-part c =
    rw (ne_eqb _ _ c.if-field-eq5.false, ← c.number_at.ensures, eq-eqb _ _ c.if-number_at-kind.true, eq-eqb _ _ c.if-field-part.true)

pub returns-then-number_at-kind : goal.returns-then-number_at-kind
unfolding item_of
returns-then-number_at-kind c =
    rw (ne_eqb _ _ c.if-field-eq5.false, ← c.number_at.ensures, eq-eqb _ _ c.if-number_at-kind.true, ne_eqb _ _ c.if-field-part.false)

pub returns : goal.returns
unfolding item_of
returns c =
    rw (ne_eqb _ _ c.if-field-eq5.false, ← c.number_at.ensures, ne_eqb _ _ c.if-number_at-kind.false)
