-- `is_of_functions` tries the three kinds.
use borrow.Author.Tests.{eq-eqb, ne_eqb}
use Rattle.check_function_causes.specs.Functions.{is_definition, is_call, is_return, is_of_functions}
use borrow.Author.Rules.{rules}
use Rattle.check_functions.proofs.is_of_functions.Goals as goal

pub returns-then-kind-eq59 : goal.returns-then-kind-eq59
unfolding is_of_functions is_definition is_call is_return
returns-then-kind-eq59 c =
    rw (← c.number_at-kind.ensures, eq-eqb _ _ c.if-kind-eq59.true)

pub returns-then-kind-eq31 : goal.returns-then-kind-eq31
unfolding is_of_functions is_definition is_call is_return
returns-then-kind-eq31 c =
    rw (← c.number_at-kind.ensures, ne_eqb _ _ c.if-kind-eq59.false, eq-eqb _ _ c.if-kind-eq31.true)

pub returns : goal.returns
unfolding is_of_functions is_definition is_call is_return
returns c =
    rw (← c.number_at-kind.ensures, ne_eqb _ _ c.if-kind-eq59.false, ne_eqb _ _ c.if-kind-eq31.false)
