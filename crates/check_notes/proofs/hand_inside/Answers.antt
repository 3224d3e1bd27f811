-- `hand_inside` is the rule of the note `Inside`.
use Rattle.check_notes.specs.RowNotes.{handed}
use borrow.Author.Rules.{rules}
use Rattle.check_notes.proofs.hand_inside.Goals as goal

pub returns : goal.returns
unfolding handed
returns c =
    rw (← c.number_at.ensures, ← c.between.ensures) c.inside.ensures
