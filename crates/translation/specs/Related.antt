-- When a source run and a kernel run go alike: a relation of their states, kept by every step and store, and of their results. A
-- source step brings `rate` credits and a kernel step takes one, so the bound on counts falls out.
use Rattle.std.specs.Prelude.{◌≡◌, refl, Bool, false, List, [], ◌∷◌, ◌++◌, ℕ, zero, suc, ◌+◌, ◌*◌, ◌≤◌, ◌<◌, ℤ, pos, length, get_or, Err, Ok, Result as Outcome}
use Rattle.std.proofs.Common.{ap, ◌∙◌, append_assoc, arith, add-zero, length-set, length-append}
use Rattle.std.proofs.Math.ListN.{get_or-append}
use Rattle.std.proofs.lemmas.List.{set-append_left}
use Rattle.words.specs.Layout.{Layout, array_base, array_length}
use Rattle.words.specs.declared.FaultSort.{FaultSort}
use Rattle.computation.specs.Computation.{Turn, again, leave, Computation}
use Rattle.computation.specs.Run.{Write, State, stepped, written, spent, fault, Result, ok, stopped, and_then}
use Rattle.language.specs.Meaning.{Context}
use Rattle.language.specs.Functions.{context_by}
use Rattle.language.specs.Untouched.{Leaves, Any, NoElement}
use Rattle.translation.specs.Stack.{Stack, bottom, ◌▹◌, depth, laid, read_word, write_word, read_behind, write-behind}
use Rattle.translation.specs.RunThen.{rounds_then}

-- What the two runs are measured by, wherever they are: the source's words; the kernel's words behind them; and at most `rate` kernel steps to a
-- source step.
pub record Measure : Type 0 where
  pub words : ℕ
  pub behind : ℕ
  pub rate : ℕ

-- What the two runs have in common: where the arrays lie; what calls do in each; what a function can write, and that it leaves the rest alone; the
-- rounds that a loop may go, the same in both runs.
pub record Setting : Type 1 where
  pub layout : Layout
  pub source_calls : ℕ → List ℤ → Computation ℤ
  pub kernel_calls : ℕ → List ℤ → Computation ℤ
  pub called : ℕ → ℕ → Bool
  pub leaves : (i : ℕ) → NoElement layout i → (f : ℕ) (values : List ℤ) → called f i ≡ false → Leaves i Any (source_calls f values)
  pub measure : Measure
  pub rounds : ℕ
  pub arrays_inside : (array : ℕ) → array < length layout.lengths → array_base layout array + array_length layout array ≤ measure.words

abbrev pub source_in : Setting → Context
source_in setting = context_by setting.layout setting.source_calls

abbrev pub kernel_in : Setting → Context
kernel_in setting = context_by setting.layout setting.kernel_calls

-- Where a part of a translation runs. Behind the source's words stand those that it leaves alone, what its callers hold; then, from store word `first` on,
-- its temporaries, and what is above them.
pub record Frame (setting : Setting) : Type 0 where
  pub under : List ℤ
  pub first : ℕ
  pub first_is : setting.measure.words + length under ≡ first
  pub temporaries : ℕ
  pub room : ℕ
  pub fits : temporaries ≤ room
  pub all_words : length under + room ≡ setting.measure.behind

-- The writes that both have made, the last first. The kernel's are the source's, in their order, each made within `rate` kernel steps to a
-- source step; and among them others, to temporaries.
pub data Logs (μ : Measure) : List Write → List Write → Type 0 where
  logs_none : Logs μ [] []
  logs_both : {i a b : ℕ} {v : ℤ} {ws vs : List Write} → i < μ.words → b ≤ μ.rate * a → Logs μ ws vs → Logs μ (record { place = i; value = v; when = a } ∷ ws) (record { place = i; value = v; when = b } ∷ vs)
  logs_kernel : {i b : ℕ} {v : ℤ} {ws vs : List Write} → μ.words ≤ i → Logs μ ws vs → Logs μ ws (record { place = i; value = v; when = b } ∷ vs)

pub logs-temporary : {setting : Setting} (fr : Frame setting) {b : ℕ} {v : ℤ} {ws vs : List Write} (t : ℕ) → Logs setting.measure ws vs → Logs setting.measure ws (record { place = fr.first + t; value = v; when = b } ∷ vs)
logs-temporary fr t l = logs_kernel {i = fr.first + t} (omega (arith, fr.first_is)) l

-- The kernel's store is the source's and what is left alone, then the temporaries in use, then what is spare; and the kernel may take `credit` steps
-- more.
pub record Related {setting : Setting} (fr : Frame setting) (F : Stack ℤ) (credit : ℕ) (σ κ : State) : Type 0 where
  pub spare : List ℤ
  pub stores : κ.store ≡ laid (σ.store ++ fr.under) F spare
  pub source_words : length σ.store ≡ setting.measure.words
  pub kernel_words : depth F + length spare ≡ fr.room
  pub cost : κ.count + credit ≤ setting.measure.rate * σ.count
  pub logs : Logs setting.measure σ.writes κ.writes

-- Where both stop, whatever was under way: the kernel's store is the source's, then whatever it holds.
pub record Stood (μ : Measure) (σ κ : State) : Type 0 where
  pub left : List ℤ
  pub stores : κ.store ≡ σ.store ++ left
  pub left_words : length left ≡ μ.behind
  pub few_steps : κ.count ≤ μ.rate * σ.count
  pub logs : Logs μ σ.writes κ.writes

-- Both runs end in the relation R, both are cut off, or both stop with one fault and related stores.
pub data Alike (μ : Measure) {A B : Type 0} (R : A → B → State → State → Type 0) : Result A → Result B → Type 0 where
  alike_ok : {a : A} {b : B} {σ κ : State} → R a b σ κ → Alike μ R (ok a σ) (ok b κ)
  alike_spent : {σ κ : State} → Logs μ σ.writes κ.writes → Alike μ R (stopped spent σ) (stopped spent κ)
  alike_fault : {sort : FaultSort} {σ κ : State} → Stood μ σ κ → Alike μ R (stopped (fault sort) σ) (stopped (fault sort) κ)

module _ {setting : Setting} {fr : Frame setting} {F : Stack ℤ} {x : ℕ} {σ κ : State} where
  -- where the temporaries begin in the kernel's store
  pub first-at : Related fr F x σ κ → length (σ.store ++ fr.under) ≡ fr.first
  first-at n = simp length-append (omega (arith, n.source_words, fr.first_is))

  -- a source step pays for `rate` kernel steps
  pub related-step : {y : ℕ} → y ≤ x + setting.measure.rate → Related fr F x σ κ → Related fr F y (stepped σ) κ
  related-step h n = record { spare = n.spare; stores = n.stores; source_words = n.source_words; kernel_words = n.kernel_words; cost = omega arith; logs = n.logs }

  -- the kernel's count goes on, within the credit
  pub related-ran : {y : ℕ} (u : ℕ) → u + y ≤ κ.count + x → Related fr F x σ κ → Related fr F y σ (record { store = κ.store; count = u; writes = κ.writes })
  related-ran u h n = record { spare = n.spare; stores = n.stores; source_words = n.source_words; kernel_words = n.kernel_words; cost = omega arith; logs = n.logs }

  -- the same, with another log of the kernel's writes
  pub related-logged : {y : ℕ} (u : ℕ) (ws : List Write) → u + y ≤ κ.count + x → Logs setting.measure σ.writes ws → Related fr F x σ κ → Related fr F y σ (record { store = κ.store; count = u; writes = ws })
  related-logged u ws h l n = record { spare = n.spare; stores = n.stores; source_words = n.source_words; kernel_words = n.kernel_words; cost = omega arith; logs = l }

  pub related-less : {y : ℕ} → y ≤ x → Related fr F x σ κ → Related fr F y σ κ
  related-less h n = record { spare = n.spare; stores = n.stores; source_words = n.source_words; kernel_words = n.kernel_words; cost = omega arith; logs = n.logs }

  pub related-load : (i : ℕ) → i < setting.measure.words → Related fr F x σ κ → get_or κ.store i (pos 0) ≡ get_or σ.store i (pos 0)
  related-load i h n =
      rw n.stores (read_word (σ.store ++ fr.under) F n.spare i (pos 0) (omega (arith, first-at n, fr.first_is)) ∙ get_or-append σ.store fr.under (pos 0) i (omega (arith, n.source_words)))

  pub related-save : (i : ℕ) (v : ℤ) → i < setting.measure.words → Related fr F x σ κ → Related fr F x (written i v σ) (written i v κ)
  related-save i v h n = record {
    spare = n.spare;
    stores = rw n.stores (write_word (σ.store ++ fr.under) F n.spare i v (omega (arith, first-at n, fr.first_is))
        ∙ ap (λ l. laid l F n.spare) (set-append_left σ.store fr.under i v (omega (arith, n.source_words))));
    source_words = length-set σ.store i v ∙ n.source_words;
    kernel_words = n.kernel_words;
    cost = n.cost;
    logs = logs_both {a = σ.count} {b = κ.count} h (omega (arith, n.cost)) n.logs;
  }

  -- a temporary written above those in use
  pub related-push : {t : ℕ} (v : ℤ) → depth F ≡ t → t < fr.temporaries → Related fr F x σ κ → Related fr (F ▹ v) x σ (written (fr.first + t) v κ)
  related-push v at h n = rw (← at) (go n.spare n.stores n.kernel_words)
    where
      go : (r : List ℤ) → κ.store ≡ laid (σ.store ++ fr.under) F r → depth F + length r ≡ fr.room → Related fr (F ▹ v) x σ (written (fr.first + depth F) v κ)
      go [] e f = absurd (omega (arith, fr.fits))
      go (y ∷ r) e f = record {
        spare = r;
        stores = rw (e, ← first-at n, ← (add-zero (depth F))) (write-behind (σ.store ++ fr.under) F (y ∷ r) 0 v);
        source_words = n.source_words;
        kernel_words = omega arith;
        cost = n.cost;
        logs = logs-temporary fr (depth F) n.logs;
      }

  pub related-pop : {v : ℤ} → Related fr (F ▹ v) x σ κ → Related fr F x σ κ
  related-pop {v} n = record { spare = v ∷ n.spare; stores = n.stores; source_words = n.source_words; kernel_words = omega arith; cost = n.cost; logs = n.logs }

pub related-top : {setting : Setting} {fr : Frame setting} {F : Stack ℤ} {x t : ℕ} {σ κ : State} {v : ℤ} → depth F ≡ t → Related fr (F ▹ v) x σ κ → get_or κ.store (fr.first + t) (pos 0) ≡ v
related-top {fr = fr} {F = F} {σ = σ} {v = v} at n = rw (← at, n.stores, ← first-at n, ← (add-zero (depth F))) (read_behind (σ.store ++ fr.under) F (v ∷ n.spare) 0 (pos 0))

-- one temporary more, whatever it holds
pub related-skip : {setting : Setting} {fr : Frame setting} {F : Stack ℤ} {x : ℕ} {σ κ : State} → depth F < fr.temporaries → Related fr F x σ κ → (w : ℤ) × Related fr (F ▹ w) x σ κ
related-skip {setting} {fr} {F} {x} {σ} {κ} h n = go n.spare n.stores n.kernel_words
  where
    go : (r : List ℤ) → κ.store ≡ laid (σ.store ++ fr.under) F r → depth F + length r ≡ fr.room → (w : ℤ) × Related fr (F ▹ w) x σ κ
    go [] e f = absurd (omega (arith, fr.fits))
    go (y ∷ r) e f = (y, record { spare = r; stores = e; source_words = n.source_words; kernel_words = omega arith; cost = n.cost; logs = n.logs })

-- the temporary under the top written over
pub related-under : {setting : Setting} {fr : Frame setting} {F : Stack ℤ} {x t : ℕ} {σ κ : State} {u w : ℤ} (v : ℤ) → depth F ≡ t → Related fr (F ▹ u ▹ w) x σ κ → Related fr (F ▹ v ▹ w) x σ (written (fr.first + t) v κ)
related-under {fr = fr} {F = F} {t = t} {σ = σ} {u = u} {w = w} v at n = record {
  spare = n.spare;
  stores = rw (← at, n.stores, ← first-at n, ← (add-zero (depth F))) (write-behind (σ.store ++ fr.under) F (u ∷ w ∷ n.spare) 0 v);
  source_words = n.source_words;
  kernel_words = n.kernel_words;
  cost = n.cost;
  logs = logs-temporary fr t n.logs;
}

-- the top written over
pub related-over : {setting : Setting} {fr : Frame setting} {F : Stack ℤ} {x t : ℕ} {σ κ : State} {u : ℤ} (v : ℤ) → depth F ≡ t → Related fr (F ▹ u) x σ κ → Related fr (F ▹ v) x σ (written (fr.first + t) v κ)
related-over {fr = fr} {F = F} {t = t} {σ = σ} {u = u} v at n = record {
  spare = n.spare;
  stores = rw (← at, n.stores, ← first-at n, ← (add-zero (depth F))) (write-behind (σ.store ++ fr.under) F (u ∷ n.spare) 0 v);
  source_words = n.source_words;
  kernel_words = n.kernel_words;
  cost = n.cost;
  logs = logs-temporary fr t n.logs;
}

pub related-end : {setting : Setting} {fr : Frame setting} {F : Stack ℤ} {x : ℕ} {σ κ : State} → Related fr F x σ κ → Related fr bottom 0 σ κ
related-end {F = bottom} n = related-less (omega arith) n
related-end {F = F ▹ v} n = related-end (related-pop n)

-- what holds wherever a run stops
pub related-stood : {setting : Setting} {fr : Frame setting} {σ κ : State} → Related fr bottom 0 σ κ → Stood setting.measure σ κ
related-stood {fr = fr} {σ = σ} n = record {
  left = fr.under ++ n.spare;
  stores = n.stores ∙ append_assoc σ.store fr.under n.spare;
  left_words = simp length-append (omega (arith, n.kernel_words, fr.all_words));
  few_steps = omega (arith, n.cost);
  logs = n.logs;
}

-- both stop with one fault, the kernel within its credit
pub alike-logged : {setting : Setting} {fr : Frame setting} {A B : Type 0} {R : A → B → State → State → Type 0} {F : Stack ℤ} {x : ℕ} {σ κ : State} {sort : FaultSort} (u : ℕ) (ws : List Write) → u ≤ κ.count + x → Logs setting.measure σ.writes ws → Related fr F x σ κ
    → Alike setting.measure R (stopped (fault sort) σ) (stopped (fault sort) (record { store = κ.store; count = u; writes = ws }))
alike-logged u ws h l n = alike_fault (related-stood (related-end (related-logged {y = 0} u ws (omega arith) l n)))

pub alike-stop : {setting : Setting} {fr : Frame setting} {A B : Type 0} {R : A → B → State → State → Type 0} {F : Stack ℤ} {x : ℕ} {σ κ : State} {sort : FaultSort} (u : ℕ) → u ≤ κ.count + x → Related fr F x σ κ
    → Alike setting.measure R (stopped (fault sort) σ) (stopped (fault sort) (record { store = κ.store; count = u; writes = κ.writes }))
alike-stop {κ = κ} u h n = alike-logged u κ.writes h n.logs n

-- ---- what follows two runs that go alike

module _ {μ : Measure} {A B C D : Type 0} {Q : A → B → State → State → Type 0} {R : C → D → State → State → Type 0} where
  pub alike_then : {r : Result A} {q : Result B} {f : A → State → Result C} {g : B → State → Result D} → Alike μ Q r q
      → ((a : A) (b : B) (σ κ : State) → r ≡ ok a σ → Q a b σ κ → Alike μ R (f a σ) (g b κ)) → Alike μ R (and_then r f) (and_then q g)
  alike_then (alike_ok e) k = k _ _ _ _ refl e
  alike_then (alike_spent n) k = alike_spent n
  alike_then (alike_fault n) k = alike_fault n

-- ---- cases

pub by-outcome : {A G : Type 0} (o : Outcome A FaultSort) → ((a : A) → o ≡ Ok a → G) → ((sort : FaultSort) → o ≡ Err sort → G) → G
by-outcome (Ok a) y n = y a refl
by-outcome (Err sort) y n = n sort refl

-- ---- two loops go round together: P holds before each round, and Q where they are left

module _ {μ : Measure} {A B C D : Type 0} {R : C → D → State → State → Type 0}
    (P : State → State → Type 0) (Q : A → B → State → State → Type 0)
    (logs : (σ κ : State) → P σ κ → Logs μ σ.writes κ.writes)
    (f : A → State → Result C) (g : B → State → Result D)
    (end : (a : A) (b : B) (σ κ : State) → Q a b σ κ → Alike μ R (f a σ) (g b κ))
    (m : State → (Turn A → State → Result C) → Result C) (n : State → (Turn B → State → Result D) → Result D)
    (round : (σ κ : State) → P σ κ → (h : Turn A → State → Result C) (k : Turn B → State → Result D)
    → ((τ ν : State) → P τ ν → Alike μ R (h again τ) (k again ν))
    → ((a : A) (b : B) (τ ν : State) → Q a b τ ν → Alike μ R (h (leave a) τ) (k (leave b) ν))
    → Alike μ R (m (stepped σ) h) (n (stepped κ) k)) where
  pub alike-loop : (c : ℕ) (σ κ : State) → P σ κ → Alike μ R (rounds_then c m σ f) (rounds_then c n κ g)
  alike-loop zero σ κ p = alike_spent (logs σ κ p)
  alike-loop (suc c) σ κ p = round σ κ p _ _ (alike-loop c) end
