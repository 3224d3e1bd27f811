-- The kernel rows of a branch that may be absent.
use mathlib.Core.Path.{sym, ◌∙◌}
use native.Mathlib.Omega.{arith}
use Rattle.writers.proofs.StatementLaws.{body-some}
use Rattle.writers.proofs.lists.body_size.Goals as goal

pub statement_size-requires : goal.statement_size-requires
statement_size-requires c =
    (c.requires.0, c.requires.1, omega (arith, body-some c.args.source.now.rows.now c.args.row (omega arith), c.requires.2))

pub returns : goal.returns
returns c =
    c.statement_size.ensures ∙ sym (body-some c.args.source.now.rows.now c.args.row (omega arith))
