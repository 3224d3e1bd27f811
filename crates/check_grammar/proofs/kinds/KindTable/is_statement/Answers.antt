-- `is_statement` asks what the row is.
use Rattle.words.specs.Links.{is_statement}
use borrow.Author.Rules.{rules}
use Rattle.check_grammar.proofs.kinds.KindTable.is_statement.Goals as goal

pub returns : goal.returns
unfolding is_statement
returns c =
    rw (← c.sort_at.ensures)
