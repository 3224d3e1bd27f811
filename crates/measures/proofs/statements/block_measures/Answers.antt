-- The measures of a block.
use mathlib.Core.Path.{ap, ◌∙◌}
use Prim.Native.Nat.{ℕ, ◌+◌}
use native.Mathlib.Omega.{arith}
use Rattle.measures_table.specs.Measures.{limited}
use Rattle.measures.proofs.StatementLaws.{same-three}
use Rattle.measures.proofs.statements.block_measures.Goals as goal

pub measure_at-requires : goal.measure_at-requires
measure_at-requires c = c.requires 6 (omega arith)

pub overflow_add-measure_at : goal.overflow_add-measure_at
overflow_add-measure_at c = omega (arith, c.measure_at.ensures.small)

pub measure_at-requires-2 : goal.measure_at-requires-2
measure_at-requires-2 c = c.requires 7 (omega arith)

pub measure_at-requires-3 : goal.measure_at-requires-3
measure_at-requires-3 c = c.requires 8 (omega arith)

pub returns : goal.returns
returns c = same-three (c.limited.ensures ∙ ap (λ (n : ℕ). limited (1 + n)) c.measure_at.ensures.is) c.measure_at-2.ensures.is c.measure_at-3.ensures.is
