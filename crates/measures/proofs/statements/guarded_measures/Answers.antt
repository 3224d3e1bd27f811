-- The measures of a guarded form.
use mathlib.Core.Path.{ap, ◌∙◌}
use Prim.Native.Nat.{ℕ, ◌+◌}
use native.Mathlib.Omega.{arith}
use Rattle.measures_table.specs.Measures.{limited, arms_rows_slot, arms_levels_slot, arms_labels_slot}
use Rattle.measures.proofs.StatementLaws.{same-three}
use Rattle.measures.proofs.statements.guarded_measures.Goals as goal

pub measure_at-requires : goal.measure_at-requires
measure_at-requires c = c.requires.0 arms_rows_slot (omega arith)

pub measure_at-requires-2 : goal.measure_at-requires-2
measure_at-requires-2 c = c.requires.0 arms_levels_slot (omega arith)

pub measure_at-requires-3 : goal.measure_at-requires-3
measure_at-requires-3 c = c.requires.0 arms_labels_slot (omega arith)

pub returns : goal.returns
returns c =
    same-three
    (c.limited.ensures ∙ ap (λ (n : ℕ). limited (c.args.own + n)) c.measure_at.ensures.is)
    c.measure_at-2.ensures.is
    (c.limited-2.ensures ∙ ap (λ (n : ℕ). limited (c.args.labels + n)) c.measure_at-3.ensures.is)
