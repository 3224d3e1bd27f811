-- `names_number` asks for the row's kind, then for its number.
use borrow.Author.Tests.{eq-eqb, ne_eqb}
use borrow.Author.Rules.{rules}
use Rattle.names.specs.Names.{is_name}
use Rattle.check_declaration_causes.specs.Causes.{names_number}
use Rattle.check_declarations.proofs.initial.names_number.Goals as goal

pub returns-then-number_at-eq2 : goal.returns-then-number_at-eq2
unfolding names_number is_name
returns-then-number_at-eq2 c =
    rw (← c.number_at.ensures, eq-eqb _ _ c.if-number_at-eq2.true, ← c.number_at-then-number_at-eq2.ensures)

pub returns : goal.returns
unfolding names_number is_name
returns c =
    rw (← c.number_at.ensures, ne_eqb _ _ c.if-number_at-eq2.false)
