-- `lowest_outside_block` finds nothing where there is no declaration; else the pass and the search do.
use mathlib.Core.Path.{sym, ◌∙◌}
use Rattle.check_declaration_causes.proofs.AcceptsDeclared.{undeclared-inside}
use borrow.Author.Rules.{rules}
use Rattle.check_declarations.proofs.lowest_outside_block.Goals as goal

pub returns-then-declared-eq0 : goal.returns-then-declared-eq0
returns-then-declared-eq0 c =
    sym (undeclared-inside _ (sym c.requires.2 ∙ c.if-declared-eq0.true))
