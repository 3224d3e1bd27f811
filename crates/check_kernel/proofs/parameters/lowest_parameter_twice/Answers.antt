-- `lowest_parameter_twice` finds nothing where there is no parameter.
use mathlib.Core.Path.{sym, ◌∙◌}
use Rattle.check_declaration_causes.proofs.AcceptsDeclared.{undeclared-once}
use borrow.Author.Rules.{rules}
use Rattle.check_kernel.proofs.parameters.lowest_parameter_twice.Goals as goal

pub returns-then-declaration_count-eq0 : goal.returns-then-declaration_count-eq0
returns-then-declaration_count-eq0 c =
    sym (undeclared-once _ (sym c.declaration_count.ensures ∙ c.if-declaration_count-eq0.true))
