-- `write_scopes` says what the pass has written in names' words.
use Rattle.names_resolver.specs.ScanLaws.{scope-notes}
use Rattle.names_resolver.proofs.scopes.write_scopes.Goals as goal

pub returns : goal.returns
returns c =
    scope-notes c.write_notes.ensures
