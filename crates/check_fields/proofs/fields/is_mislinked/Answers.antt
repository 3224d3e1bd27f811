-- `is_mislinked` makes its definition's tests in order.
use mathlib.Core.Bool.{not}
use mathlib.Core.Path.{ap}
use borrow.Author.Tests.{eq-eqb, ne_eqb}
use Rattle.check_fields.specs.Fields.{mislinked}
use borrow.Author.Rules.{rules}
use Rattle.check_fields.proofs.fields.is_mislinked.Goals as goal

pub returns-then-link-eq0 : goal.returns-then-link-eq0
unfolding mislinked
returns-then-link-eq0 c =
    rw (← c.role_sort-sort.ensures, ← c.is_link.ensures, c.if-is_link.true, ← c.number_at-link.ensures, eq-eqb _ _ c.if-link-eq0.true) c.is_required.ensures

pub returns-then-is_link : goal.returns-then-is_link
unfolding mislinked
returns-then-is_link c =
    rw (← c.role_sort-sort.ensures, ← c.is_link.ensures, c.if-is_link.true, ← c.number_at-link.ensures, ne_eqb _ _ c.if-link-eq0.false) (ap not c.leads_right.ensures)

pub returns : goal.returns
unfolding mislinked
returns c =
    rw (← c.role_sort-sort.ensures, ← c.is_link.ensures, c.if-is_link.false)
