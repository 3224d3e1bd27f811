-- What an atom holds, and where a place lies, told by the stack of temporaries; and what the kernel reads there.
use Rattle.std.specs.Prelude.{◌≡◌, Bool, true, false, List, [], ◌∷◌, ℕ, zero, suc, ◌+◌, ◌≤◌, ◌<◌, ℤ, pos, get_or, set, Ok, Result as Outcome}
use Rattle.words.specs.declared.FaultSort.{FaultSort}
use Rattle.std.proofs.Math.Path.{refl, ap, fun_ext}
use Rattle.std.proofs.Common.{◌∙◌, arith, add-one, get_or-set_same}
use Rattle.std.proofs.Math.Nat.{add-zero}
use Rattle.words.specs.Word.{pick}
use Rattle.words.specs.Layout.{array_base, array_length}
use Rattle.arithmetic.specs.Arithmetic.{element as element_word}
use Rattle.arithmetic.proofs.Laws.{element-inside}
use Rattle.computation.specs.Computation.{Computation, ret, settle}
use Rattle.computation.specs.Run.{Write, State, stepped, written, Result}
use Rattle.language.specs.Trees.{Place, variable, element, Items, none, ◌then◌, ◌here◌, define, ◌⧺◌}
use Rattle.language.specs.Meaning.{Signal, next, enters_statement, enters_mark, enter, evaluate, locate, perform, items}
use Rattle.language.specs.WellFormed.{SourceName}
use Rattle.translation.specs.Translate.{Atom, number, word, top, held, taken, atom}
use Rattle.translation.specs.Stack.{Stack, ◌▹◌, depth}
use Rattle.translation.specs.RunThen.{run_then}
use Rattle.translation.specs.Related.{Setting, kernel_in, Frame, Related, related-load, related-top, related-pop, related-skip, related-under, related-over}

-- A word that holds v holds it still when v is stored, in that word or another.
set_same : (l : List ℤ) (j i : ℕ) (v : ℤ) → get_or l i (pos 0) ≡ v → get_or (set l j v) i (pos 0) ≡ v
set_same [] j i v e = e
set_same (x ∷ l) zero zero v e = refl
set_same (x ∷ l) zero (suc i) v e = e
set_same (x ∷ l) (suc j) zero v e = e
set_same (x ∷ l) (suc j) (suc i) v e = set_same l j i v e

module _ {setting : Setting} (fr : Frame setting) where
  -- An atom holds v in the source's state σ: with the stack F below its level, and F' after.
  pub data Holds (F : Stack ℤ) : Atom → ℤ → Stack ℤ → State → Type 0 where
    holds-number : {v : ℤ} {σ : State} → Holds F (number v) v F σ
    holds-word : {i : ℕ} {v : ℤ} {σ : State} → SourceName setting.layout setting.measure.words i → get_or σ.store i (pos 0) ≡ v → Holds F (word i) v F σ
    holds-top : {v : ℤ} {σ : State} → Holds F top v (F ▹ v) σ

  pub holds-depth : {F F' : Stack ℤ} {h : Atom} {v : ℤ} {t : ℕ} {σ : State} → depth F ≡ t → Holds F h v F' σ → depth F' ≡ t + taken h
  holds-depth at holds-number = omega arith
  holds-depth at (holds-word b e) = omega arith
  holds-depth at holds-top = omega arith

  -- From σ to τ the source's run wrote no variable but those of W.
  pub record Keeps (W : ℕ → Bool) (σ τ : State) : Type 0 where
    pub keeps : (i : ℕ) → SourceName setting.layout setting.measure.words i → W i ≡ false → get_or τ.store i (pos 0) ≡ get_or σ.store i (pos 0)

  pub after-step : {W : ℕ → Bool} {σ τ : State} → Keeps W (stepped σ) τ → Keeps W σ τ
  after-step k = record { keeps = k.keeps }

  word-later : {F F' : Stack ℤ} {v : ℤ} {σ τ : State} (W : ℕ → Bool) (i : ℕ) (b : Bool) → W i ≡ b → Keeps W σ τ → Holds F (pick b top (word i)) v F' σ → Holds F (pick b top (word i)) v F' τ
  word-later W i true e k holds-top = holds-top
  word-later W i false e k (holds-word b d) = holds-word b (k.keeps i b e ∙ d)

  -- What is held stays so while the source goes on.
  pub holds_later : {F F' : Stack ℤ} {v : ℤ} {σ τ : State} (h : Atom) (W : ℕ → Bool) → Keeps W σ τ → Holds F (held h W) v F' σ → Holds F (held h W) v F' τ
  holds_later (number u) W k holds-number = holds-number
  holds_later (word i) W k holds = word-later W i (W i) refl k holds
  holds_later top W k holds-top = holds-top

  -- What is stored stays held.
  pub holds-stored : {F F' : Stack ℤ} {h : Atom} {v : ℤ} {σ : State} (p : ℕ) → Holds F h v F' σ → Holds F h v F' (written p v σ)
  holds-stored p holds-number = holds-number
  holds-stored {v = v} {σ = σ} p (holds-word {i = i} b e) = holds-word b (set_same σ.store p i v e)
  holds-stored p holds-top = holds-top

  -- A variable holds what was stored in it.
  pub holds-saved : {F G : Stack ℤ} {x i : ℕ} {v : ℤ} {σ κ : State} → SourceName setting.layout setting.measure.words i → Related fr G x σ κ → Holds F (word i) v F (written i v σ)
  holds-saved {i = i} {v = v} {σ = σ} b m = holds-word b (get_or-set_same σ.store i v (pos 0) (omega (arith, m.source_words, b.inside)))

  -- The source's computation, and the kernel's items after one that ended with a signal, each with what follows.
  abbrev pub source : {A C : Type 0} → Computation A → State → (A → State → Result C) → Result C
  source m = run_then setting.rounds m

  abbrev pub kernel : {D : Type 0} → Items → Signal → State → (Signal → State → Result D) → Result D
  kernel xs signal = run_then setting.rounds (items (kernel_in setting) xs signal)

  -- Two lists in a row.
  pub kernel-append : {D : Type 0} (xs ys : Items) (s : Signal) (κ : State) (k : Signal → State → Result D)
      → kernel (xs ⧺ ys) s κ k ≡ kernel xs s κ (λ t τ. kernel ys t τ k)
  unfolding run_then items ◌⧺◌
  kernel-append none ys s κ k = refl
  kernel-append (define f words body xs) ys s κ k = kernel-append xs ys s κ k
  kernel-append (x then xs) ys s κ k = ap (λ h. source (pick (enters_statement s) (enter (perform (kernel_in setting) x)) (ret s)) κ h) (fun_ext λ u. fun_ext λ τ. kernel-append xs ys u τ k)
  kernel-append (m here xs) ys s κ k = ap (λ h. source (pick (enters_mark s m) (enter (ret next)) (ret s)) κ h) (fun_ext λ u. fun_ext λ τ. kernel-append xs ys u τ k)

  -- The kernel reads what an atom holds.
  pub see : {D : Type 0} {F F' : Stack ℤ} {h : Atom} {v : ℤ} {x t : ℕ} {σ κ : State} → depth F ≡ t → Holds F h v F' σ → Related fr F' x σ κ
      → (u : ℕ) (ws : List Write) (k : ℤ → State → Result D)
      → source (evaluate (kernel_in setting) (atom fr.first t h)) (record { store = κ.store; count = u; writes = ws }) k ≡ k v (record { store = κ.store; count = u; writes = ws })
  unfolding run_then evaluate
  see at holds-number m u ws k = refl
  see at (holds-word {i = i} b e) m u ws k = rw (related-load i b.inside m, e)
  see at holds-top m u ws k = rw (related-top at m)

  -- The atom's temporary is free again.
  pub release : {F F' : Stack ℤ} {h : Atom} {v : ℤ} {x : ℕ} {ρ σ κ : State} → Holds F h v F' ρ → Related fr F' x σ κ → Related fr F x σ κ
  release holds-number m = m
  release (holds-word b e) m = m
  release holds-top m = related-pop m

  -- The atom's temporary is kept, used or not; it holds w.
  pub record Kept (F : Stack ℤ) (h : Atom) (v w : ℤ) (σ : State) : Type 0 where
    pub under : Stack ℤ
    pub holds : Holds F h v under σ
    pub pops : {x : ℕ} {σ κ : State} → Related fr (F ▹ w) x σ κ → Related fr under x σ κ

  pub kept-later : {F : Stack ℤ} {v w : ℤ} {σ τ : State} (h : Atom) (W : ℕ → Bool) → Keeps W σ τ → Kept F (held h W) v w σ → Kept F (held h W) v w τ
  kept-later h W e k = record { under = k.under; holds = holds_later h W e k.holds; pops = k.pops }

  pub keep : {F F' : Stack ℤ} {h : Atom} {v : ℤ} {x : ℕ} {σ κ : State} → depth F < fr.temporaries → Holds F h v F' σ → Related fr F' x σ κ → (w : ℤ) × Kept F h v w σ × Related fr (F ▹ w) x σ κ
  keep h holds-number m = let s = related-skip h m in (s.0, record { under = _; holds = holds-number; pops = λ n. related-pop n }, s.1)
  keep h (holds-word b e) m = let s = related-skip h m in (s.0, record { under = _; holds = holds-word b e; pops = λ n. related-pop n }, s.1)
  keep h holds-top m = (_, record { under = _; holds = holds-top; pops = λ n. n }, m)

  -- A kernel place above the stack F stands for the outcome o of the bounds test; n is the number of rows below its own.
  pub data Aims (F : Stack ℤ) : Place → Outcome ℕ FaultSort → Stack ℤ → ℕ → State → Type 0 where
    aims-variable : {i : ℕ} {σ : State} → i < setting.measure.words → Aims F (variable i) (Ok i) F 0 σ
    aims-element : {array t : ℕ} {h : Atom} {v : ℤ} {F' : Stack ℤ} {σ : State} → array_base setting.layout array + array_length setting.layout array ≤ setting.measure.words → depth F ≡ t → Holds F h v F' σ
        → Aims F (element array (atom fr.first t h)) (element_word (array_base setting.layout array) (array_length setting.layout array) v) F' 1 σ

  pub aims-inside : {F F' : Stack ℤ} {q : Place} {o : Outcome ℕ FaultSort} {n : ℕ} {σ : State} → Aims F q o F' n σ → (i : ℕ) → o ≡ Ok i → i < setting.measure.words
  aims-inside (aims-variable {i = j} h) i e = let z : j ≡ i = cc in omega arith
  aims-inside (aims-element {v = v} h at k) i e = omega (arith, (element-inside _ _ v i e).most)

  pub aims-release : {F F' : Stack ℤ} {q : Place} {o : Outcome ℕ FaultSort} {n x : ℕ} {ρ σ κ : State} → Aims F q o F' n ρ → Related fr F' x σ κ → Related fr F x σ κ
  aims-release (aims-variable h) m = m
  aims-release (aims-element h at k) m = release k m

  pub see-place : {D : Type 0} {F F' : Stack ℤ} {q : Place} {o : Outcome ℕ FaultSort} {n x : ℕ} {σ κ : State} → Aims F q o F' n σ → Related fr F' x σ κ
      → (u : ℕ) (ws : List Write) (k : ℕ → State → Result D)
      → source (locate (kernel_in setting) q) (record { store = κ.store; count = u; writes = ws }) k ≡ source (settle o) (record { store = κ.store; count = u + n; writes = ws }) k
  unfolding run_then evaluate
  see-place (aims-variable h) m u ws k = rw add-zero
  see-place (aims-element h at a) m u ws k = rw (see at a m, add-one)

  -- The temporary under a place's index is written over; the place stays.
  pub aims-under : {F F' : Stack ℤ} {w : ℤ} {q : Place} {o : Outcome ℕ FaultSort} {n x t : ℕ} {ρ σ κ : State} (v : ℤ) → depth F ≡ t → Aims (F ▹ w) q o F' n ρ → Related fr F' x σ κ
      → (F'' : Stack ℤ) × (depth F'' ≡ depth F') × Aims (F ▹ v) q o F'' n ρ × Related fr F'' x σ (written (fr.first + t) v κ)
  aims-under v at (aims-variable h) m = (_, refl, aims-variable h, related-over v at m)
  aims-under v at (aims-element h e holds-number) m = (_, refl, aims-element h e holds-number, related-over v at m)
  aims-under v at (aims-element h e (holds-word b d)) m = (_, refl, aims-element h e (holds-word b d), related-over v at m)
  aims-under v at (aims-element h e holds-top) m = (_, refl, aims-element h e holds-top, related-under v at m)
