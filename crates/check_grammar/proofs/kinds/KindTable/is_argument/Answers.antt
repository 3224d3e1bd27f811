-- `is_argument` asks what the row is.
use Rattle.words.specs.Links.{is_argument}
use borrow.Author.Rules.{rules}
use Rattle.check_grammar.proofs.kinds.KindTable.is_argument.Goals as goal

pub returns : goal.returns
unfolding is_argument
returns c =
    rw (← c.sort_at.ensures)
