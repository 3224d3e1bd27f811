-- `field_cause` makes its definition's three tests in order.
use borrow.Author.Rules.{rules}
use Rattle.check_structure.specs.Passes.{field_cause}
use Rattle.check_structure.proofs.causes.MarkedRows.field_cause.Goals as goal

pub returns-then-is_foreign : goal.returns-then-is_foreign
unfolding field_cause
returns-then-is_foreign c = rw (← c.is_foreign.ensures, c.if-is_foreign.true)

pub returns-then-is_mislinked : goal.returns-then-is_mislinked
unfolding field_cause
returns-then-is_mislinked c =
    rw (← c.is_foreign.ensures, c.if-is_foreign.false, ← c.is_mislinked.ensures, c.if-is_mislinked.true)

pub returns-then-is_outside : goal.returns-then-is_outside
unfolding field_cause
returns-then-is_outside c =
    rw (← c.is_foreign.ensures, c.if-is_foreign.false, ← c.is_mislinked.ensures, c.if-is_mislinked.false, ← c.is_outside.ensures, c.if-is_outside.true)

pub returns : goal.returns
unfolding field_cause
returns c =
    rw (← c.is_foreign.ensures, c.if-is_foreign.false, ← c.is_mislinked.ensures, c.if-is_mislinked.false, ← c.is_outside.ensures, c.if-is_outside.false)
