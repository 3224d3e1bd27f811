-- `leads_right` makes its definition's tests in order.
use borrow.Author.Tests.{lt-ltb, le-ltb}
use Rattle.check_fields.specs.Fields.{leads_right}
use borrow.Author.Rules.{rules}
use Rattle.check_fields.proofs.fields.leads_right.Goals as goal

pub returns-then-link-rows : goal.returns-then-link-rows
unfolding leads_right
returns-then-link-rows c =
    rw (lt-ltb _ _ c.if-row-link.true, lt-ltb _ _ c.if-link-rows.true) c.fits.ensures

pub returns-then-row-link : goal.returns-then-row-link
unfolding leads_right
returns-then-row-link c =
    rw (lt-ltb _ _ c.if-row-link.true, le-ltb _ _ c.if-link-rows.false)

pub returns : goal.returns
unfolding leads_right
returns c =
    rw (le-ltb _ _ c.if-row-link.false)
