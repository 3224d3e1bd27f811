-- `calls_wrongly` looks up the definition that the call means and the function that it stands in.
use mathlib.Core.Path.{◌∙◌}
use native.Mathlib.Omega.{arith}
use borrow.Author.Tests.{eq-eqb, ne_eqb}
use Rattle.check_function_causes.specs.Functions.{is_call}
use Rattle.check_function_causes.specs.Causes.{wrong_call}
use Rattle.check_function_causes.proofs.FrontLaws.{function-inside}
use Rattle.check_function_causes.proofs.AroundLaws.{around-most}
use borrow.Author.Rules.{rules}
use Rattle.check_functions.proofs.breaks.calls_wrongly.Goals as goal

pub is_wrong_call-requires : goal.is_wrong_call-requires
is_wrong_call-requires c =
    let start = c.before.before.before.before.before.before.before.before in let n = start.requires.2 in let is = c.wide.ensures ∙ start.requires.3.stands.is _ n in let most = around-most _ start.requires.0 _ n in (start.requires.0, rw c.function_of-definition.ensures (function-inside _ start.requires.0 start.requires.1 _), omega arith, n)

pub returns-then-number_at-eq31 : goal.returns-then-number_at-eq31
unfolding wrong_call is_call
returns-then-number_at-eq31 c =
    let start = c.before.before.before.before.before.before.before.before.before in let is = c.wide.ensures ∙ start.requires.3.stands.is _ start.requires.2 in rw (← c.number_at.ensures, eq-eqb _ _ c.if-number_at-eq31.true, ← c.number_at-then-number_at-eq31.ensures, ← c.function_of-definition.ensures, ← is) c.is_wrong_call.ensures

pub returns : goal.returns
unfolding wrong_call is_call
returns c =
    rw (← c.number_at.ensures, ne_eqb _ _ c.if-number_at-eq31.false)
