-- Whether anything stands behind.
use mathlib.Core.Path.{sym}
use native.Mathlib.Omega.{arith}
use Rattle.writers_rows.specs.Chain.{more-some}
use Rattle.writers_rows.proofs.rows.more.Goals as goal

pub returns : goal.returns
returns c = sym (more-some _ c.args.rows (omega arith))
