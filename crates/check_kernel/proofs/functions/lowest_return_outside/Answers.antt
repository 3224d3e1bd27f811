-- `lowest_return_outside` finds nothing where there is no function.
use mathlib.Core.Path.{sym, ◌∙◌}
use Rattle.check_function_causes.proofs.AcceptsFunctions.{without-functions, functionless-inside}
use borrow.Author.Rules.{rules}
use Rattle.check_kernel.proofs.functions.lowest_return_outside.Goals as goal

pub returns : goal.returns
returns c =
    sym (functionless-inside _ (without-functions _ (sym c.has_functions.ensures ∙ c.if-has_functions.false)))
