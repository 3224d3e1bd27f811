-- `sort_at` reads the kind, then the table.
use Rattle.words.specs.Kinds.{sort_at}
use borrow.Author.Rules.{rules}
use Rattle.check_grammar.proofs.kinds.KindTable.sort_at.Goals as goal

pub returns : goal.returns
unfolding sort_at
returns c =
    rw (← c.number_at.ensures) c.sort_of.ensures
