-- `declared_fits` makes its definition's tests in order.
use borrow.Author.Tests.{le-leb, lt-leb}
use Rattle.check_fields.proofs.fields.declared_fits.Goals as goal

pub returns-then-declared-number : goal.returns-then-declared-number
returns-then-declared-number c = rw (le-leb _ _ c.if-declared-number.true)

pub returns : goal.returns
returns c = rw (lt-leb _ _ c.if-declared-number.false)
