-- Laws of the code of arguments by the copies: its rows and its levels are the translation's.
use Rattle.std.specs.Prelude.{◌≡◌, Bool}
use Rattle.std.proofs.Math.Path.{refl, ap, ap₂}
use Rattle.std.proofs.Common.{sym, ◌∙◌}
use Prim.Native.Nat.{ℕ, ◌+◌, ◌/◌, ◌%◌, ◌≤◌, max}
use native.Mathlib.Omega.{arith}
use Rattle.language.specs.Trees.{Arguments, no_more, ◌also◌, none, ◌⧺◌}
use Rattle.language.specs.Calls.{argument_count}
use Rattle.language.specs.Sizes.{items_rows}
use Rattle.language.specs.Writes.{writes}
use Rattle.translation.specs.declared.Use.TheVariants.{Wanted as wanted}
use Rattle.translation.specs.Translate.{together, atom_of, taken, expression_code, expression_levels, arguments_levels}
use Rattle.translation.specs.TranslateSize.{arguments_size}
use Rattle.translation.proofs.TranslateRows.{rows_append, rows-expression}
use Rattle.translation.specs.Holding.{held_by, hold_by}
use Rattle.translation.proofs.HeldCode.{held-by}
use Rattle.measures_table.specs.Arguments.{argument_copies}
use Rattle.writers_steps.specs.AtomLaws.{rows-hold}
use Rattle.writers_calls.specs.Arguments.{taken_by, size_by, levels_by, code_by}
use Rattle.writers_calls.specs.ArgumentLaws.{first-digit, other-digits, taken-by}

-- `called f i`: whether function f can write the variable i.
module _ (called : ℕ → ℕ → Bool) where
  pub size-by : (arguments : Arguments) (W : ℕ → Bool) → size_by called arguments (argument_copies called arguments W) ≡ arguments_size called arguments W
  unfolding size_by arguments_size
  size-by no_more W = refl
  size-by (e also arguments) W =
      let after = together (writes called e) W in
      let others = ap (size_by called arguments) (other-digits called e arguments W) ∙ size-by arguments after in
      omega (arith, others, first-digit called e arguments W)

  pub levels-by : (arguments : Arguments) (W : ℕ → Bool) → levels_by called arguments (argument_copies called arguments W) ≡ arguments_levels called arguments W
  unfolding levels_by arguments_levels
  levels-by no_more W = refl
  levels-by (e also arguments) W =
      let after = together (writes called e) W in
      let others = ap (levels_by called arguments) (other-digits called e arguments W) ∙ levels-by arguments after in
      let behind = ap (taken_by called arguments) (other-digits called e arguments W) ∙ taken-by called arguments after in
      let own = ap (λ (k : ℕ). taken (held_by k (atom_of called e))) (first-digit called e arguments W) ∙ ap taken (sym (held-by (atom_of called e) W)) in
      ap₂ max others (ap₂ (λ (n k : ℕ). n + max (expression_levels called e wanted) k) behind own)

  -- what they take is among their levels
  pub taken-levels : (arguments : Arguments) (copies : ℕ) → taken_by called arguments copies ≤ levels_by called arguments copies
  unfolding taken_by levels_by
  taken-levels no_more copies = omega arith
  taken-levels (e also arguments) copies = omega (arith, taken-levels arguments (copies / 2))

  pub rows_code : (S : ℕ) (arguments : Arguments) (copies t : ℕ) → items_rows (code_by called S arguments copies t) ≡ size_by called arguments copies
  unfolding code_by size_by items_rows
  rows_code S no_more copies t = refl
  rows_code S (e also arguments) copies t =
      let level = t + taken_by called arguments (copies / 2) in
      let behind = code_by called S arguments (copies / 2) t in
      let value = expression_code called S e wanted level in
      let hold = hold_by S level (copies % 2) (atom_of called e) in
      let own = rows_append value hold ∙ ap₂ ◌+◌ (rows-expression called S e wanted level) (rows-hold S level (copies % 2) (atom_of called e) (omega arith)) in
      rows_append behind (value ⧺ hold) ∙ ap₂ ◌+◌ (rows_code S arguments (copies / 2) t) own

  pub code-none : (S : ℕ) (arguments : Arguments) (copies t : ℕ) → argument_count arguments ≡ 0 → none ≡ code_by called S arguments copies t
  unfolding argument_count code_by
  code-none S no_more copies t e = refl
  code-none S (e also arguments) copies t h = absurd (omega arith)
