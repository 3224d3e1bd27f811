-- `declaration_refusal` accepts where there is no declaration; else the causes decide.
use mathlib.Core.Path.{sym, ◌∙◌}
use Rattle.check_declaration_causes.proofs.AcceptsDeclared.{undeclared-accepted}
use borrow.Author.Rules.{rules}
use Rattle.check_declarations.proofs.declaration_refusal.Goals as goal

pub returns-then-declared-eq0 : goal.returns-then-declared-eq0
returns-then-declared-eq0 c =
    sym (undeclared-accepted _ (sym c.requires.2 ∙ c.if-declared-eq0.true))
