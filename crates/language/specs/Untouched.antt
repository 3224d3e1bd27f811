-- Untouched words: computations that leave a word alone, under every limit.
use Rattle.std.specs.Prelude.{◌≡◌, ℕ, ℤ, pos, get_or, Ok}
use Rattle.words.specs.Layout.{Layout, array_base, array_length}
use Rattle.arithmetic.specs.Arithmetic.{element as element_word}
use Rattle.computation.specs.Computation.{Computation}
use Rattle.computation.specs.Run.{State, Stop, Result, ok, stopped, Limit, run}

-- A result in which word i holds w; where there is a value, Q holds of it.
pub data Untouched {A : Type 0} (i : ℕ) (Q : A → Type 0) (w : ℤ) : Result A → Type 0 where
  untouched_ok : {a : A} {σ : State} → get_or σ.store i (pos 0) ≡ w → Q a → Untouched i Q w (ok a σ)
  untouched_stopped : {why : Stop} {σ : State} → get_or σ.store i (pos 0) ≡ w → Untouched i Q w (stopped why σ)

-- A computation that leaves word i as it was, and whose value satisfies Q.
pub record Leaves {A : Type 0} (i : ℕ) (Q : A → Type 0) (m : Computation A) : Type 0 where
  pub leaves : (l : Limit) (σ : State) → Untouched i Q (get_or σ.store i (pos 0)) (run l m σ)

-- Nothing is said of the value.
abbrev pub Any : {A : Type 0} → A → Type 0
Any a = Unit {0}

-- No element of an array is word i.
abbrev pub NoElement : Layout → ℕ → Type 0
NoElement L i = (array : ℕ) (index : ℤ) (position : ℕ) → element_word (array_base L array) (array_length L array) index ≡ Ok position → i ≡ position → ⊥
