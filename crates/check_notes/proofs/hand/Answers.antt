-- `hand` takes the note's own rule.
use Rattle.check_notes.specs.RowNotes.{handed}
use borrow.Author.Rules.{rules}
use Rattle.check_notes.proofs.hand.Goals as goal

pub returns-in-Inside : goal.returns-in-Inside
returns-in-Inside c =
    rw c.in-Inside.is c.hand_inside.ensures

pub returns-in-Around : goal.returns-in-Around
unfolding handed
returns-in-Around c =
    rw (c.in-Around.is, ← c.number_at.ensures, ← c.narrow.ensures) c.inside.ensures

pub returns-in-ItemOf : goal.returns-in-ItemOf
unfolding handed
returns-in-ItemOf c =
    rw c.in-ItemOf.is c.hand_item.ensures

pub returns-in-Before : goal.returns-in-Before
returns-in-Before c =
    rw c.in-Before.is c.hand_before.ensures

pub returns-in-Behind : goal.returns-in-Behind
unfolding handed
returns-in-Behind c =
    rw (c.in-Behind.is, ← c.number_at-in-Behind.ensures) c.behind.ensures

pub returns-in-BodyOf : goal.returns-in-BodyOf
unfolding handed
returns-in-BodyOf c =
    rw (c.in-BodyOf.is, ← c.number_at-in-BodyOf.ensures) c.body.ensures
