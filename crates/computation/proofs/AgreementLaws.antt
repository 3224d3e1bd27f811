-- Laws of agreement: computations that do not tell apart two states that agree. A rule for each constructor; for every limit, so that runs that
-- are cut off are covered too.
use Rattle.std.specs.Prelude.{◌≡◌, refl, Bool, true, false, List, [], ◌∷◌, ℕ, zero, suc, ℤ, pos, length, set, Err, Ok, Result as Outcome}
use Rattle.std.proofs.Math.Path.{sym}
use Rattle.std.proofs.Common.{◌∙◌, ap, arith}
use Rattle.std.proofs.Math.ListN.{get_or, length-set}
use Rattle.std.proofs.Math.Seq.{get_or-set_other}
use Rattle.std.proofs.Math.Decide.{ℕ_discrete}
use Rattle.words.specs.Word.{pick}
use Rattle.words.specs.declared.FaultSort.{FaultSort}
use Rattle.computation.specs.Computation.{Turn, again, leave, Computation, ret, ◌>>=◌, step, load, save, fail, loop, settle}
use Rattle.computation.specs.Run.{State, stepped, Stop, spent, Result, ok, stopped, Limit, steps, rounds, and_then, has_room, run_step, rounds_from, iterate, run}
use Rattle.computation.specs.Agreement.{Words, ◌within◌, Agree}

agree-fewer : {P Q : Words} {σ τ : State} → Q within P → Agree P σ τ → Agree Q σ τ
agree-fewer h a = record { counts = a.counts; lengths = a.lengths; values = λ i q. a.values i (h i q) }

-- Sequences taken together the other way.
pub then-then : {A B C : Type 0} (r : Result A) (f : A → State → Result B) (g : B → State → Result C) → and_then r (λ a σ. and_then (f a σ) g) ≡ and_then (and_then r f) g
then-then (ok a σ) f g = refl
then-then (stopped why σ) f g = refl

-- What was written is read in both; beyond the stores' end both read 0.
written_same : (s t : List ℤ) (i : ℕ) (v : ℤ) → length s ≡ length t → get_or (set s i v) i (pos 0) ≡ get_or (set t i v) i (pos 0)
written_same [] [] i v e = refl
written_same [] (y ∷ t) i v e = absurd (omega arith)
written_same (x ∷ s) [] i v e = absurd (omega arith)
written_same (x ∷ s) (y ∷ t) zero v e = refl
written_same (x ∷ s) (y ∷ t) (suc i) v e = written_same s t i v (omega arith)

-- The visible words: those on which two runs agree wherever they stop.
module _ (Visible : Words) where
  -- The same value and agreement on Q of it; or the same reason to stop, and agreement on the visible words.
  pub data Same {A : Type 0} (Q : A → Words) : Result A → Result A → Type 0 where
    same_ok : {a : A} {σ τ : State} → Agree (Q a) σ τ → Same Q (ok a σ) (ok a τ)
    same-stopped : {why : Stop} {σ τ : State} → Agree Visible σ τ → Same Q (stopped why σ) (stopped why τ)

  -- From states that agree on P, m gives the same: it reads only words of P, and words that it wrote itself.
  pub record Blind {A : Type 0} (P : Words) (Q : A → Words) (m : Computation A) : Type 0 where
    pub same : (l : Limit) (σ τ : State) → Agree P σ τ → Same Q (run l m σ) (run l m τ)

  same_then : {A B : Type 0} {Q : A → Words} {R : B → Words} {r q : Result A} (f : A → State → Result B) → Same Q r q
      → ((a : A) (σ τ : State) → Agree (Q a) σ τ → Same R (f a σ) (f a τ)) → Same R (and_then r f) (and_then q f)
  same_then f (same_ok {a} {σ} {τ} g) k = k a σ τ g
  same_then f (same-stopped g) k = same-stopped g

  same-fewer : {A : Type 0} {Q R : A → Words} {r q : Result A} → ((a : A) → R a within Q a) → Same Q r q → Same R r q
  same-fewer h (same_ok {a} g) = same_ok (agree-fewer (h a) g)
  same-fewer h (same-stopped g) = same-stopped g

  pub blind-weaker : {A : Type 0} {P P' : Words} {Q Q' : A → Words} {m : Computation A} → P within P' → ((a : A) → Q' a within Q a) → Blind P Q m → Blind P' Q' m
  blind-weaker h k b = record { same = λ l σ τ a. same-fewer k (b.same l σ τ (agree-fewer h a)) }

  pub blind-ret : {A : Type 0} {P : Words} {Q : A → Words} (a : A) → Q a within P → Blind P Q (ret a)
  unfolding run
  blind-ret a h = record { same = λ l σ τ g. same_ok (agree-fewer h g) }

  pub blind-then : {A B : Type 0} {P : Words} {Q : A → Words} {R : B → Words} {m : Computation A} {k : A → Computation B} → Blind P Q m → ((a : A) → Blind (Q a) R (k a)) → Blind P R (m >>= k)
  unfolding run
  blind-then {k = k} b c = record { same = λ l σ τ g. same_then (λ a. run l (k a)) (b.same l σ τ g) (λ a ρ π h. (c a).same l ρ π h) }

  -- Whether a step is left depends on the count alone.
  same-room : (l : Limit) (σ τ : State) → σ.count ≡ τ.count → has_room l σ ≡ has_room l τ
  same-room (steps b) σ τ e = rw e
  same-room (rounds c) σ τ e = refl

  same-rounds : (l : Limit) (σ τ : State) → σ.count ≡ τ.count → rounds_from l σ ≡ rounds_from l τ
  same-rounds (steps b) σ τ e = rw e
  same-rounds (rounds c) σ τ e = refl

  same_step : {P : Words} → Visible within P → (l : Limit) (σ τ : State) → Agree P σ τ → Same (λ _. P) (run_step l σ) (run_step l τ)
  same_step {P} v l σ τ g = by (has_room l σ) (has_room l τ) (same-room l σ τ g.counts)
    where
      by : (r q : Bool) → r ≡ q → Same (λ _. P) (pick r (ok (tt {0}) (stepped σ)) (stopped spent σ)) (pick q (ok (tt {0}) (stepped τ)) (stopped spent τ))
      by true true e = same_ok (record { counts = ap (λ (n : ℕ). suc n) g.counts; lengths = g.lengths; values = g.values })
      by false false e = same-stopped (agree-fewer v g)
      by true false e = absurd (let z : ◌≡◌ {A = ℕ} 0 1 = cc in omega arith)
      by false true e = absurd (let z : ◌≡◌ {A = ℕ} 0 1 = cc in omega arith)

  pub blind-step : {P : Words} → Visible within P → Blind P (λ _. P) step
  unfolding run
  blind-step v = record { same = λ l σ τ g. same_step v l σ τ g }

  pub blind-load : {P : Words} (i : ℕ) → P i → Blind P (λ _. P) (load i)
  unfolding run
  blind-load {P} i p = record { same = λ l σ τ g. rw (g.values i p) (same_ok g) }

  -- A word that is written is known from then on.
  pub blind-save : {P Q : Words} (i : ℕ) (v : ℤ) → ((j : ℕ) → Q j → (j ≡ i → ⊥) → P j) → Blind P (λ _. Q) (save i v)
  unfolding run
  blind-save {P} {Q} i v h = record { same = λ l σ τ g. same_ok (record { counts = g.counts; lengths = length-set σ.store i v ∙ g.lengths ∙ sym (length-set τ.store i v); values = λ j q. go σ τ g j q (ℕ_discrete j i) }) }
    where
      go : (σ τ : State) → Agree P σ τ → (j : ℕ) → Q j → Dec (j ≡ i) → get_or (set σ.store i v) j (pos 0) ≡ get_or (set τ.store i v) j (pos 0)
      go σ τ g j q (no d) = get_or-set_other σ.store i j v (pos 0) d ∙ g.values j (h j q d) ∙ sym (get_or-set_other τ.store i j v (pos 0) d)
      go σ τ g j q (yes e) = rw e (written_same σ.store τ.store i v g.lengths)

  pub blind-fail : {A : Type 0} {P : Words} {Q : A → Words} (sort : FaultSort) → Visible within P → Blind P Q (fail sort)
  unfolding run
  blind-fail sort v = record { same = λ l σ τ g. same-stopped (agree-fewer v g) }

  abbrev pub after_round : {A : Type 0} → Words → (A → Words) → Turn A → Words
  after_round P Q again = P
  after_round P Q (leave a) = Q a

  module _ {A : Type 0} {P : Words} {Q : A → Words} (v : Visible within P) (l : Limit) (body : State → Result (Turn A))
      (same_body : (σ τ : State) → Agree P σ τ → Same (after_round P Q) (body σ) (body τ)) where
    same-iterate : (n : ℕ) (σ τ : State) → Agree P σ τ → Same Q (iterate l n body σ) (iterate l n body τ)
    same-iterate zero σ τ g = same-stopped (agree-fewer v g)
    same-iterate (suc n) σ τ g = same_then _ (same_step v l σ τ g) (λ _ ρ π h. same_then _ (same_body ρ π h) (elim [ again ↦ same-iterate n | leave a ↦ λ μ ν k. same_ok k ]))

  pub blind-loop : {A : Type 0} {P : Words} {Q : A → Words} {m : Computation (Turn A)} → Visible within P → Blind P (after_round P Q) m → Blind P Q (loop m)
  unfolding run
  blind-loop {m = m} v b = record { same = λ l σ τ g. rw (same-rounds l σ τ g.counts) (same-iterate v l (run l m) (b.same l) (rounds_from l τ) σ τ g) }

  pub blind-again : {A B C : Type 0} {P : Words} {R : C → Words} (m : Computation A) (f : A → Computation B) (k : B → Computation C) → Blind P R (m >>= λ a. f a >>= k) → Blind P R ((m >>= f) >>= k)
  unfolding run
  blind-again m f k b = record { same = λ l σ τ g. rw (← then-then (run l m σ) (λ a. run l (f a)) (λ c. run l (k c)), ← then-then (run l m τ) (λ a. run l (f a)) (λ c. run l (k c))) (b.same l σ τ g) }

  -- An outcome: with its value, or a fault that stops the run.
  pub blind-settle : {A B : Type 0} {P : Words} {R : B → Words} (o : Outcome A FaultSort) (k : A → Computation B) → Visible within P → ((a : A) → o ≡ Ok a → Blind P R (k a)) → Blind P R (settle o >>= k)
  unfolding run
  blind-settle (Ok a) k v h = record { same = λ l σ τ g. (h a refl).same l σ τ g }
  blind-settle (Err sort) k v h = record { same = λ l σ τ g. same-stopped (agree-fewer v g) }
