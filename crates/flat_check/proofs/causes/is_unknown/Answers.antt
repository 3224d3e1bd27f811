-- `is_unknown` tests the line's operation.
use mathlib.Core.Path.{ap, ◌∙◌}
use mathlib.Core.Bool.{not}
use Rattle.flat.specs.Refusal.{known_operation, unknown_operation}
use borrow.Author.Rules.{rules}
use Rattle.flat_check.proofs.causes.is_unknown.Goals as goal

pub returns : goal.returns
unfolding unknown_operation
returns c =
    ap not (c.known_operation.ensures ∙ ap known_operation c.operation_at.ensures)
