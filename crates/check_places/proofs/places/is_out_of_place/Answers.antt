-- `is_out_of_place` makes its definition's tests in order.
use borrow.Author.Tests.{eq-eqb, ne_eqb}
use Rattle.check_places.specs.Places.{out_of_place}
use borrow.Author.Rules.{rules}
use Rattle.check_places.proofs.places.is_out_of_place.Goals as goal

pub returns-then-kind-eq50 : goal.returns-then-kind-eq50
unfolding out_of_place
returns-then-kind-eq50 c =
    rw (eq-eqb _ _ c.if-kind-eq50.true)

pub returns-then-kind-eq51 : goal.returns-then-kind-eq51
unfolding out_of_place
returns-then-kind-eq51 c =
    rw (ne_eqb _ _ c.if-kind-eq50.false, eq-eqb _ _ c.if-kind-eq51.true)

pub returns-then-between : goal.returns-then-between
unfolding out_of_place
returns-then-between c =
    rw (ne_eqb _ _ c.if-kind-eq50.false, ne_eqb _ _ c.if-kind-eq51.false, ← c.between.ensures, c.if-between.true)

pub returns : goal.returns
unfolding out_of_place
returns c =
    rw (ne_eqb _ _ c.if-kind-eq50.false, ne_eqb _ _ c.if-kind-eq51.false, ← c.between.ensures, c.if-between.false)
