-- `write_earlier` says what the pass has written in check_items' words.
use borrow.Author.Rules.{rules}
use Rattle.check_declarations.specs.PassLaws.{declaration-notes}
use Rattle.check_declarations.proofs.notes.write_earlier.Goals as goal

pub returns : goal.returns
returns c =
    declaration-notes c.write_notes.ensures
