-- `functions_refusal` accepts where there is no function; else the causes decide.
use mathlib.Core.Path.{sym, ◌∙◌}
use Rattle.check_function_causes.proofs.AcceptsFunctions.{without-functions, functionless-accepted}
use borrow.Author.Rules.{rules}
use Rattle.check_kernel.proofs.functions.functions_refusal.Goals as goal

pub returns : goal.returns
returns c =
    sym (functionless-accepted _ (without-functions _ (sym c.has_functions.ensures ∙ c.if-has_functions.false)))
