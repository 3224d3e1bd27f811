-- The measures of a declaration.
use mathlib.Core.Path.{refl, ap, ◌∙◌}
use Prim.Native.Nat.{ℕ, ◌+◌}
use native.Mathlib.Omega.{arith}
use Rattle.measures_table.specs.Measures.{limited, rows_slot, stored_levels_slot}
use Rattle.measures.proofs.StatementLaws.{same-three}
use Rattle.measures.proofs.statements.declare_measures.Goals as goal

pub measure_at-requires : goal.measure_at-requires
measure_at-requires c = c.requires.0 rows_slot (omega arith)

pub overflow_add-store : goal.overflow_add-store
overflow_add-store c = omega (arith, c.measure_at.ensures.small, c.requires.1)

pub measure_at-requires-2 : goal.measure_at-requires-2
measure_at-requires-2 c = c.requires.0 stored_levels_slot (omega arith)

pub returns : goal.returns
returns c = same-three (c.limited.ensures ∙ ap (λ (n : ℕ). limited (c.args.store + n)) c.measure_at.ensures.is) c.measure_at-2.ensures.is refl
