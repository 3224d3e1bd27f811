-- An expression that is no call passes nothing, and copies no argument.
use Rattle.std.specs.Prelude.{◌≡◌, refl, Bool, false, ℕ}
use Rattle.std.proofs.Common.{true≢false}
use Rattle.language.specs.Trees.{Expression, constant, read, minus, not, binary, and, or, comma, conditional, assign, compound, prefix, postfix, call}
use Rattle.language_shapes.specs.Functions.{is_call}
use Rattle.measures_table.specs.Parts.{passed_rows}
use Rattle.measures_table.specs.Arguments.{call_copies}

module _ (called : ℕ → ℕ → Bool) where
  pub passes_none : (e : Expression) → is_call e ≡ false → passed_rows called e ≡ 0
  passes_none (constant v) h = refl
  passes_none (read p) h = refl
  passes_none (minus e) h = refl
  passes_none (not e) h = refl
  passes_none (binary operator a b) h = refl
  passes_none (and a b) h = refl
  passes_none (or a b) h = refl
  passes_none (comma a b) h = refl
  passes_none (conditional c a b) h = refl
  passes_none (assign p e) h = refl
  passes_none (compound operator p e) h = refl
  passes_none (prefix operator p) h = refl
  passes_none (postfix operator p) h = refl
  passes_none (call f arguments) h = absurd (true≢false h)

  pub copies-none : (e : Expression) → is_call e ≡ false → call_copies called e ≡ 0
  copies-none (constant v) h = refl
  copies-none (read p) h = refl
  copies-none (minus e) h = refl
  copies-none (not e) h = refl
  copies-none (binary operator a b) h = refl
  copies-none (and a b) h = refl
  copies-none (or a b) h = refl
  copies-none (comma a b) h = refl
  copies-none (conditional c a b) h = refl
  copies-none (assign p e) h = refl
  copies-none (compound operator p e) h = refl
  copies-none (prefix operator p) h = refl
  copies-none (postfix operator p) h = refl
  copies-none (call f arguments) h = absurd (true≢false h)
