-- `behind` makes its tests in order.
use borrow.Author.Tests.{eq-eqb, ne_eqb}
use borrow.Author.Rules.{rules}
use Rattle.check_notes.proofs.behind.Goals as goal

pub returns-then-passed : goal.returns-then-passed
returns-then-passed c = rw (eq-eqb _ _ c.if-field-eq5.true, c.if-passed.true) c.narrow.ensures

pub returns-then-field-eq5 : goal.returns-then-field-eq5
returns-then-field-eq5 c = rw (eq-eqb _ _ c.if-field-eq5.true, c.if-passed.false)

pub returns : goal.returns
returns c = rw (ne_eqb _ _ c.if-field-eq5.false)
