-- `is_declaration` asks for the number of the row's kind.
use Rattle.words.specs.Declarations.{is_declaration}
use Rattle.words.proofs.declarations.is_declaration.Goals as goal

pub returns : goal.returns
unfolding is_declaration
returns c =
    rw (← c.number_at.ensures)
