-- `is_place` asks what the row is.
use Rattle.words.specs.Links.{is_place}
use borrow.Author.Rules.{rules}
use Rattle.check_grammar.proofs.kinds.KindTable.is_place.Goals as goal

pub returns : goal.returns
unfolding is_place
returns c =
    rw (← c.sort_at.ensures)
