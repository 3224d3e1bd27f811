-- `lower_row` makes its definition's tests in order.
use borrow.Author.Tests.{lt-ltb, le-ltb}
use Rattle.check_labels.specs.Passes.{lower}
use Rattle.check_labels.proofs.labels.lower_row.Goals as goal

pub returns-then-row-found : goal.returns-then-row-found
unfolding lower
returns-then-row-found c = rw (c.if-test.true, lt-ltb _ _ c.if-row-found.true)

pub returns-then-test : goal.returns-then-test
unfolding lower
returns-then-test c = rw (c.if-test.true, le-ltb _ _ c.if-row-found.false)

pub returns : goal.returns
unfolding lower
returns c = rw c.if-test.false
