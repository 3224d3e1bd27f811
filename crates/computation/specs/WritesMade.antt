-- The writes that a run makes to the first S words of its store, each as place and value, in order.
use Rattle.std.specs.Prelude.{◌≡◌, List, [], ◌∷◌, ◌++◌, ℕ, ltb, ℤ}
use Rattle.words.specs.Word.{pick}
use Rattle.computation.specs.Run.{Write, Result, final}

-- "each as place and value": a store of the value that the word held is a write like any other.
pub record Stored : Type 0 where
  pub place : ℕ
  pub value : ℤ

abbrev pub stored : Write → Stored
stored w = record { place = w.place; value = w.value }

-- "the writes to the first S words .. in order", of a log, which has the last write first. Words behind the first S, as a kernel's
-- temporaries, are left out.
unfoldable pub visible : ℕ → List Write → List Stored
visible S [] = []
visible S (w ∷ ws) = visible S ws ++ pick (ltb w.place S) (stored w ∷ []) []

-- What a run has written, however it ended or stopped.
abbrev pub made : {A : Type 0} → ℕ → Result A → List Stored
made S r = visible S (final r).writes

-- The writes ws are the first ones of vs.
pub record FirstOf (ws vs : List Stored) : Type 0 where
  pub later : List Stored
  pub are : vs ≡ ws ++ later
