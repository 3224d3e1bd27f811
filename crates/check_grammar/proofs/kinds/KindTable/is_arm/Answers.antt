-- `is_arm` asks what the row is.
use Rattle.words.specs.Links.{is_arm}
use borrow.Author.Rules.{rules}
use Rattle.check_grammar.proofs.kinds.KindTable.is_arm.Goals as goal

pub returns : goal.returns
unfolding is_arm
returns c =
    rw (← c.sort_at.ensures)
