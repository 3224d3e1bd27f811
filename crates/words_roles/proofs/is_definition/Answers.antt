-- `is_definition` asks for the kind.
use Rattle.words_roles.specs.Roles.{is_definition}
use borrow.Author.Rules.{rules}
use Rattle.words_roles.proofs.is_definition.Goals as goal

pub returns : goal.returns
unfolding is_definition
returns c =
    rw c.number_at.ensures
