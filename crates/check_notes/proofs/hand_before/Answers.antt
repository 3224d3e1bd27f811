-- `hand_before` is the rule of the note `Before`.
use Rattle.check_items.specs.Items.{earlier_of}
use Rattle.check_notes.specs.RowNotes.{handed}
use borrow.Author.Rules.{rules}
use Rattle.check_notes.proofs.hand_before.Goals as goal

pub returns : goal.returns
unfolding handed earlier_of
returns c =
    rw (← c.number_at.ensures, ← c.between.ensures) c.hand_earlier.ensures
