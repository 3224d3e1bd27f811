-- `write_known` writes both.
use Rattle.check_functions.specs.KnownLaws.{around-notes}
use borrow.Author.Rules.{rules}
use Rattle.check_functions.proofs.write_known.Goals as goal

pub write_notes-requires : goal.write_notes-requires
write_notes-requires c =
    (c.requires.0, c.requires.2.room, c.requires.2.is 0 c.requires.0.some_rows)

pub returns : goal.returns
returns c =
    record { stands = around-notes c.write_notes.ensures; defined = c.write_functions.ensures }
