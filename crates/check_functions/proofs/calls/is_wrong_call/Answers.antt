-- `is_wrong_call` makes the three tests in order.
use borrow.Author.Tests.{eq-eqb, ne_eqb}
use Rattle.check_function_causes.specs.Causes.{wrong_call_of}
use borrow.Author.Rules.{rules}
use Rattle.check_functions.proofs.calls.is_wrong_call.Goals as goal

pub returns-then-definition-eq0 : goal.returns-then-definition-eq0
unfolding wrong_call_of
returns-then-definition-eq0 c =
    rw (eq-eqb _ _ c.if-definition-eq0.true)

pub returns-then-is_not_lower : goal.returns-then-is_not_lower
unfolding wrong_call_of
returns-then-is_not_lower c =
    rw (ne_eqb _ _ c.if-definition-eq0.false, ← c.number_at.ensures, ← c.is_not_lower.ensures, c.if-is_not_lower.true)

pub returns : goal.returns
unfolding wrong_call_of
returns c =
    rw (ne_eqb _ _ c.if-definition-eq0.false, ← c.number_at.ensures, ← c.is_not_lower.ensures, c.if-is_not_lower.false) c.is_wrong_count.ensures
