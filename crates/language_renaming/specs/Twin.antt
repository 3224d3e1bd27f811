-- Twins: two states, two results and two computations that are the same but for where the words stand.
use Rattle.std.specs.Prelude.{◌≡◌, ◌⊎◌, List, map, ℕ, ◌+◌, ◌<◌, ◌≤◌, ℤ, pos, length, get_or}
use Rattle.words.specs.Layout.{Layout, array_base, array_length}
use Rattle.computation.specs.Computation.{Turn, again, leave, Computation}
use Rattle.computation.specs.Run.{Write, State, Stop, Result, ok, stopped, Limit, run}
use Rattle.computation.specs.Agreement.{Words, ◌within◌}

-- A write to the word that stands for the one written.
abbrev pub moved : (ℕ → ℕ) → Write → Write
moved π w = record { place = π w.place; value = w.value; when = w.when }

infixl 20 ◌with◌
-- One word more.
abbrev pub ◌with◌ : Words → ℕ → Words
(P with i) j = P j ⊎ (j ≡ i)

-- All: every word that the program names anywhere. `π i` is the word that stands for i in the second store.
module _ (All : Words) (π : ℕ → ℕ) where
  -- Every word i of P holds in τ, at π i, what it holds in σ. Equal counts; the writes are the same, moved by π.
  pub record Twin (P : Words) (σ τ : State) : Type 0 where
    pub values : (i : ℕ) → P i → get_or τ.store (π i) (pos 0) ≡ get_or σ.store i (pos 0)
    pub inside : (i : ℕ) → All i → (i < length σ.store) × (π i < length τ.store)
    pub counts : τ.count ≡ σ.count
    pub writes : τ.writes ≡ map (moved π) σ.writes

  -- Visible: the words on which the two agree wherever they stop.
  module _ (Visible : Words) where
    -- Values that belong together, and twin states on Q; or the same reason to stop, and twin states on the visible words.
    pub data TwinResult {A B : Type 0} (Q : Words) (Val : A → B → Type 0) : Result A → Result B → Type 0 where
      twin-ok : {a : A} {b : B} {σ τ : State} → Val a b → Twin Q σ τ → TwinResult Q Val (ok a σ) (ok b τ)
      twin-stopped : {why : Stop} {σ τ : State} → Twin Visible σ τ → TwinResult Q Val (stopped why σ) (stopped why τ)

    -- From states that are twins on P, under every limit.
    pub record Alike {A B : Type 0} (P Q : Words) (Val : A → B → Type 0) (m : Computation A) (n : Computation B) : Type 0 where
      pub goes : (l : Limit) (σ τ : State) → Twin P σ τ → TwinResult Q Val (run l m σ) (run l n τ)

-- ---- values that belong together

abbrev pub Equal : {A : Type 0} → A → A → Type 0
Equal {A} a b = ◌≡◌ {A = A} a b

-- Positions: of a word of P, and of the word that stands for it.
abbrev pub There : Words → (ℕ → ℕ) → ℕ → ℕ → Type 0
There P π i j = P i × (j ≡ π i)

abbrev pub TurnOf : {A B : Type 0} → (A → B → Type 0) → Turn A → Turn B → Type 0
TurnOf Val again again = Unit {0}
TurnOf Val again (leave b) = ⊥
TurnOf Val (leave a) again = ⊥
TurnOf Val (leave a) (leave b) = Val a b

-- ---- what a renaming must keep

-- Words stay apart, and the elements of arrays stay where they are. P: the words whose values are known.
pub record Renames (L : Layout) (arrays : ℕ) (All : Words) (π : ℕ → ℕ) (Visible P : Words) : Type 0 where
  pub apart : (i j : ℕ) → All i → All j → π i ≡ π j → i ≡ j
  pub known : P within All
  pub visible : Visible within P
  pub elements : (array : ℕ) → array < arrays → (i : ℕ) → array_base L array ≤ i → i < array_base L array + array_length L array → P i × (i ≡ π i)

-- ---- calls

-- Two contexts whose calls go alike from twin states, whatever more is known: `ρ f` is the number that stands for f.
pub record Callings (L : Layout) (arrays : ℕ) (All : Words) (π ρ : ℕ → ℕ) (Visible : Words) (c d : ℕ → List ℤ → Computation ℤ) : Type 1 where
  pub calls : {P : Words} → Renames L arrays All π Visible P → (f : ℕ) (values : List ℤ) → Alike All π Visible P P Equal (c f values) (d (ρ f) values)
