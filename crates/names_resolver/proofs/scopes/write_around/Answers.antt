-- `write_around` says what the pass has written in check_function_causes' words.
use Rattle.check_functions.specs.KnownLaws.{around-notes}
use Rattle.names_resolver.proofs.scopes.write_around.Goals as goal

pub returns : goal.returns
returns c =
    around-notes c.write_notes.ensures
