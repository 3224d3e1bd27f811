-- `write_bodies` says what the pass has written in check_parameter_causes' words.
use borrow.Author.Rules.{rules}
use Rattle.check_declarations.specs.BodyNotes.{body-notes}
use Rattle.check_declarations.proofs.notes.write_bodies.Goals as goal

pub returns : goal.returns
returns c =
    body-notes _ c.requires.0 c.write_notes.ensures
