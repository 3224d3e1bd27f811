-- `called_refusal` begins with blank arrays.
use Rattle.check_functions.specs.KnownLaws.{blank-zeros}
use borrow.Author.Rules.{rules}
use Rattle.check_source.proofs.functions.called_refusal.Goals as goal

pub function_refusal-requires : goal.function_refusal-requires
function_refusal-requires c =
    (c.requires.0, c.requires.1, blank-zeros _ 2048 c.requires.2, blank-zeros _ 2048 c.requires.2)
