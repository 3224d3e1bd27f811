-- `is_block` asks for the number of the row's kind.
use Rattle.words.specs.Links.{is_block}
use borrow.Author.Rules.{rules}
use Rattle.check_grammar.proofs.is_block.Goals as goal

pub returns : goal.returns
unfolding is_block
returns c =
    rw (← c.number_at.ensures)
