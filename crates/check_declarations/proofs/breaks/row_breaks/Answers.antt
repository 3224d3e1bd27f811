-- `row_breaks` lets declarations alone break a cause.
use mathlib.Core.Path.{sym, ◌∙◌}
use Rattle.check_declarations.specs.PassLaws.{none-breaks}
use borrow.Author.Rules.{rules}
use Rattle.check_declarations.proofs.breaks.row_breaks.Goals as goal

pub declaration_breaks-requires : goal.declaration_breaks-requires
declaration_breaks-requires c =
    let start = c.before.before.before in
    (start.requires.0, start.requires.1, sym c.is_declaration.ensures ∙ c.if-is_declaration.true, start.requires.2)

pub returns : goal.returns
returns c =
    sym (none-breaks _ _ _ (sym c.is_declaration.ensures ∙ c.if-is_declaration.false))
