-- Agreement: two states that agree on a set of store words.
use Rattle.std.specs.Prelude.{◌≡◌, ℕ, pos, length}
use Rattle.std.proofs.Math.ListN.{get_or}
use Rattle.computation.specs.Run.{State}

-- A set of store words.
abbrev pub Words : Type 1
Words = ℕ → Type 0

infixl 20 ◌within◌
abbrev pub ◌within◌ : Words → Words → Type 0
P within Q = (i : ℕ) → P i → Q i

-- The two states have the same count, stores of one length, and the same values in the words P.
pub record Agree (P : Words) (σ τ : State) : Type 0 where
  pub counts : σ.count ≡ τ.count
  pub lengths : length σ.store ≡ length τ.store
  pub values : (i : ℕ) → P i → get_or σ.store i (pos 0) ≡ get_or τ.store i (pos 0)
