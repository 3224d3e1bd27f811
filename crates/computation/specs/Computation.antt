-- Computations: the effects of document 01 and their sequence, and nothing else.
use Rattle.std.specs.Prelude.{ℕ, ℤ, Err, Ok, Result}
use Rattle.words.specs.declared.FaultSort.{FaultSort}

-- What a round of a loop says.
pub data Turn (A : Type 0) : Type 0 where
  again : Turn A
  leave : A → Turn A

infixl 20 ◌>>=◌ ◌>>◌
-- `step` is one counted step, `load` and `save` are of one store word, `fail` stops the run with a fault. `loop` goes round
-- until a round says `leave`. Every round of document 01's loops begins by entering a row, so `loop` itself counts the step
-- that begins a round.
pub data Computation : Type 0 → Type 1 where
  ret : {A : Type 0} → A → Computation A
  ◌>>=◌ : {A B : Type 0} → Computation A → (A → Computation B) → Computation B
  step : Computation (Unit {0})
  load : ℕ → Computation ℤ
  save : ℕ → ℤ → Computation (Unit {0})
  fail : {A : Type 0} → FaultSort → Computation A
  loop : {A : Type 0} → Computation (Turn A) → Computation A

abbrev pub ◌>>◌ : {A B : Type 0} → Computation A → Computation B → Computation B
m >> n = m >>= λ _. n

-- An operation's value; its fault stops the run.
abbrev pub settle : {A : Type 0} → Result A FaultSort → Computation A
settle (Ok a) = ret a
settle (Err sort) = fail sort
