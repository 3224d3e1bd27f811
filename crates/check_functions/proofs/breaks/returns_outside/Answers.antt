-- `returns_outside` makes the two tests in order.
use borrow.Author.Tests.{eq-eqb, ne_eqb}
use Rattle.check_function_causes.specs.Functions.{is_return}
use Rattle.check_function_causes.specs.Causes.{returns_outside}
use borrow.Author.Rules.{rules}
use Rattle.check_functions.proofs.breaks.returns_outside.Goals as goal

pub returns-then-number_at-eq60 : goal.returns-then-number_at-eq60
unfolding returns_outside is_return
returns-then-number_at-eq60 c =
    let is = c.requires.1.stands.is _ c.requires.0 in rw (← c.number_at.ensures, eq-eqb _ _ c.if-number_at-eq60.true, ← is)

pub returns : goal.returns
unfolding returns_outside is_return
returns c =
    rw (← c.number_at.ensures, ne_eqb _ _ c.if-number_at-eq60.false)
