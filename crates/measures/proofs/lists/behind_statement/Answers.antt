-- A list that begins with a statement: the words of the list behind it, and the statement's own.
use mathlib.Core.Path.{ap, ◌∙◌}
use Prim.Native.Nat.{ℕ, ◌+◌, max}
use native.Mathlib.Omega.{arith}
use Rattle.measures_table.specs.Measures.{limited, past_labels}
use Rattle.measures.proofs.StatementLaws.{same-measures}
use Rattle.measures.proofs.lists.behind_statement.Goals as goal

pub measure_at-requires : goal.measure_at-requires
measure_at-requires c = c.requires.0 6 (omega arith)

pub overflow_add-s : goal.overflow_add-s
overflow_add-s c = omega (arith, c.requires.1)

pub measure_at-requires-2 : goal.measure_at-requires-2
measure_at-requires-2 c = c.requires.0 7 (omega arith)

pub measure_at-requires-3 : goal.measure_at-requires-3
measure_at-requires-3 c = c.requires.0 8 (omega arith)

pub overflow_add-s-2 : goal.overflow_add-s-2
overflow_add-s-2 c = omega (arith, c.requires.2)

pub measure_at-requires-4 : goal.measure_at-requires-4
measure_at-requires-4 c = c.requires.0 9 (omega arith)

pub measure_at-requires-5 : goal.measure_at-requires-5
measure_at-requires-5 c = c.requires.0 10 (omega arith)

pub past_labels-requires : goal.past_labels-requires
past_labels-requires c = (c.requires.2, c.measure_at-5.ensures.small)

pub returns : goal.returns
returns c = same-measures (c.limited.ensures ∙ ap (λ (n : ℕ). limited (c.args.s.rows + n)) c.measure_at.ensures.is) (c.max.ensures ∙ ap (max c.args.s.levels) c.measure_at-2.ensures.is) (c.limited-2.ensures ∙ ap (λ (n : ℕ). limited (c.args.s.labels + n)) c.measure_at-3.ensures.is) c.measure_at-4.ensures.is (c.past_labels.ensures ∙ ap (λ (n : ℕ). limited (past_labels c.args.s.labels n)) c.measure_at-5.ensures.is)
