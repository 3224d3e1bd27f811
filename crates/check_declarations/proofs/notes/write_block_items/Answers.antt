-- `write_block_items` says what the pass has written in check_items' words.
use borrow.Author.Rules.{rules}
use Rattle.check_notes.specs.RowNoteLaws.{item-note, same-notes}
use Rattle.check_declarations.proofs.notes.write_block_items.Goals as goal

pub returns : goal.returns
returns c =
    same-notes (item-note 42 1 _) c.write_notes.ensures
