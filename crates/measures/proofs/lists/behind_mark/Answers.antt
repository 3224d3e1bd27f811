-- A list that begins with a mark: the words of the list behind it, and the mark's own.
use mathlib.Core.Path.{refl, ap, ◌∙◌}
use Prim.Native.Nat.{ℕ, ◌+◌}
use native.Mathlib.Omega.{arith}
use Rattle.measures_table.specs.Measures.{limited}
use Rattle.measures.proofs.StatementLaws.{same-measures}
use Rattle.measures.proofs.lists.behind_mark.Goals as goal

pub measure_at-requires : goal.measure_at-requires
measure_at-requires c = c.requires.0 6 (omega arith)

pub measure_at-requires-2 : goal.measure_at-requires-2
measure_at-requires-2 c = c.requires.0 7 (omega arith)

pub measure_at-requires-3 : goal.measure_at-requires-3
measure_at-requires-3 c = c.requires.0 8 (omega arith)

pub measure_at-requires-4 : goal.measure_at-requires-4
measure_at-requires-4 c = c.requires.0 9 (omega arith)

pub returns : goal.returns
returns c = same-measures (c.limited.ensures ∙ ap (λ (n : ℕ). limited (1 + n)) c.measure_at.ensures.is) c.measure_at-2.ensures.is (c.limited-2.ensures ∙ ap (λ (n : ℕ). limited (1 + n)) c.measure_at-3.ensures.is) (c.limited-3.ensures ∙ ap (λ (n : ℕ). limited (c.args.cases + n)) c.measure_at-4.ensures.is) refl
