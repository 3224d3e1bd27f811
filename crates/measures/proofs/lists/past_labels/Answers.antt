-- The place of a default behind more labels.
use mathlib.Core.Path.{◌∙◌}
use native.Mathlib.Omega.{arith}
use Rattle.measures.proofs.StatementLaws.{past-none, past-some}
use Rattle.measures.proofs.lists.past_labels.Goals as goal

pub returns-then-place-eq0 : goal.returns-then-place-eq0
returns-then-place-eq0 c = past-none c.args.more c.args.place (omega arith)

pub returns : goal.returns
returns c = c.limited.ensures ∙ past-some c.args.more c.args.place (omega arith)
