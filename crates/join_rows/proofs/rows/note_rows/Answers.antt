-- `note_rows` writes both notes, one pass each.
use Rattle.check_functions.specs.KnownLaws.{around-notes}
use Rattle.join_rows.proofs.rows.note_rows.Goals as goal

pub write_notes-requires : goal.write_notes-requires
write_notes-requires c =
    (c.requires.0, c.requires.1.room, c.requires.1.is 0 c.requires.0.some_rows)

pub write_ranks-requires : goal.write_ranks-requires
write_ranks-requires c =
    (c.requires.0, around-notes c.write_notes.ensures, c.requires.2.room)

pub returns : goal.returns
returns c =
    let ranks = c.write_ranks.ensures in
    record { stands = around-notes c.write_notes.ensures; ranked = ranks.1; definitions_are = ranks.0 }
