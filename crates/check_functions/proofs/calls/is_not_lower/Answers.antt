-- `is_not_lower` makes the two tests in order.
use borrow.Author.Tests.{eq-eqb, ne_eqb}
use Rattle.check_function_causes.specs.Causes.{not_lower}
use borrow.Author.Rules.{rules}
use Rattle.check_functions.proofs.calls.is_not_lower.Goals as goal

pub returns-then-around-eq0 : goal.returns-then-around-eq0
unfolding not_lower
returns-then-around-eq0 c =
    rw (eq-eqb _ _ c.if-around-eq0.true)

pub returns : goal.returns
unfolding not_lower
returns c =
    rw (ne_eqb _ _ c.if-around-eq0.false, c.number_at.ensures)
