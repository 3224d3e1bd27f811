-- The measures of a list, as the table has them.
use native.Mathlib.Omega.{arith}
use Rattle.measures.proofs.StatementLaws.{same-three}
use Rattle.measures.proofs.program.list_measures.Goals as goal

pub measure_at-requires : goal.measure_at-requires
measure_at-requires c = c.requires 6 (omega arith)

pub measure_at-requires-2 : goal.measure_at-requires-2
measure_at-requires-2 c = c.requires 7 (omega arith)

pub measure_at-requires-3 : goal.measure_at-requires-3
measure_at-requires-3 c = c.requires 8 (omega arith)

pub returns : goal.returns
returns c = same-three c.measure_at.ensures.is c.measure_at-2.ensures.is c.measure_at-3.ensures.is
