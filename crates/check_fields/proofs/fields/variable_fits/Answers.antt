-- `variable_fits` makes its definition's tests in order.
use borrow.Author.Tests.{lt-ltb, le-ltb, le-leb, lt-leb}
use Rattle.check_fields.proofs.fields.variable_fits.Goals as goal

pub returns-then-number-bounds : goal.returns-then-number-bounds
returns-then-number-bounds c = rw (lt-ltb _ _ c.if-number-bounds.true)

pub returns-then-bounds-number : goal.returns-then-bounds-number
returns-then-bounds-number c = rw (le-ltb _ _ c.if-number-bounds.false, le-leb _ _ c.if-bounds-number.true)

pub returns : goal.returns
returns c = rw (le-ltb _ _ c.if-number-bounds.false, lt-leb _ _ c.if-bounds-number.false)
