-- Laws of twins: a rule for each computation; how twin runs begin and end.
use Rattle.std.specs.Prelude.{◌≡◌, Bool, true, false, List, ◌∷◌, ℕ, zero, suc, ◌-◌, ◌<◌, ltb, ℤ, pos, length, set, Err, Ok, Result as Outcome}
use Rattle.std.proofs.Math.Path.{refl, sym}
use Rattle.std.proofs.Common.{◌∙◌, ap, length-set, get_or-set_same}
use Rattle.std.proofs.Math.Decide.{ℕ_discrete}
use Rattle.std.proofs.Math.ListN.{get_or}
use Rattle.std.proofs.Math.Seq.{get_or-set_other}
use Rattle.words.specs.Word.{pick}
use Rattle.words.specs.declared.FaultSort.{FaultSort}
use Rattle.computation.specs.Computation.{Turn, again, leave, Computation, ret, ◌>>=◌, step, load, save, fail, loop, settle}
use Rattle.computation.specs.Run.{Write, State, start, stepped, written, spent, fault, Result, ok, stopped, Limit, steps, rounds, and_then, has_room, run_step, rounds_from, after_turn, iterate, run, final, ending_of}
use Rattle.computation.specs.Agreement.{Words, ◌within◌}
use Rattle.language.specs.Meaning.{enter}
use Rattle.language_renaming.specs.Twin.{moved, Twin, TwinResult, twin-ok, twin-stopped, Alike, Equal, There, TurnOf}

module _ {All : Words} {π : ℕ → ℕ} where
  twin-fewer : {P Q : Words} {σ τ : State} → Q within P → Twin All π P σ τ → Twin All π Q σ τ
  twin-fewer h t = record { values = λ i q. t.values i (h i q); inside = t.inside; counts = t.counts; writes = t.writes }

  room-same : {P : Words} (l : Limit) {σ τ : State} → Twin All π P σ τ → has_room l τ ≡ has_room l σ
  room-same (steps b) t = ap (λ (c : ℕ). ltb c b) t.counts
  room-same (rounds c) t = refl

  rounds-same : {P : Words} (l : Limit) {σ τ : State} → Twin All π P σ τ → rounds_from l τ ≡ rounds_from l σ
  rounds-same (steps b) t = ap (λ (c : ℕ). suc (b - c)) t.counts
  rounds-same (rounds c) t = refl

module _ {All : Words} {π : ℕ → ℕ} {Visible : Words} where
  result-fewer : {A B : Type 0} {Q R : Words} {Val : A → B → Type 0} {r : Result A} {q : Result B} → R within Q → TwinResult All π Visible Q Val r q → TwinResult All π Visible R Val r q
  result-fewer h (twin-ok v t) = twin-ok v (twin-fewer h t)
  result-fewer h (twin-stopped t) = twin-stopped t

  -- what is known before may be more, what is known afterwards less
  pub alike-weaker : {A B : Type 0} {P P' Q Q' : Words} {Val : A → B → Type 0} {m : Computation A} {n : Computation B} → P within P' → Q' within Q → Alike All π Visible P Q Val m n → Alike All π Visible P' Q' Val m n
  alike-weaker h k p = record { goes = λ l σ τ t. result-fewer k (p.goes l σ τ (twin-fewer h t)) }

  pub alike-ret : {A B : Type 0} {P : Words} {Val : A → B → Type 0} {a : A} {b : B} → Val a b → Alike All π Visible P P Val (ret a) (ret b)
  unfolding run
  alike-ret v = record { goes = λ l σ τ t. twin-ok v t }

  twin-then : {A B C D : Type 0} {Q R : Words} {Val : A → B → Type 0} {Wal : C → D → Type 0} (f : A → State → Result C) (g : B → State → Result D)
      → ((a : A) (b : B) (σ τ : State) → Val a b → Twin All π Q σ τ → TwinResult All π Visible R Wal (f a σ) (g b τ))
      → {r : Result A} {q : Result B} → TwinResult All π Visible Q Val r q → TwinResult All π Visible R Wal (and_then r f) (and_then q g)
  twin-then f g k (twin-ok v t) = k _ _ _ _ v t
  twin-then f g k (twin-stopped t) = twin-stopped t

  pub alike_then : {A B C D : Type 0} {P Q R : Words} {Val : A → B → Type 0} {Wal : C → D → Type 0} {m : Computation A} {n : Computation B} {f : A → Computation C} {g : B → Computation D}
      → Alike All π Visible P Q Val m n → ((a : A) (b : B) → Val a b → Alike All π Visible Q R Wal (f a) (g b)) → Alike All π Visible P R Wal (m >>= f) (n >>= g)
  unfolding run
  alike_then {f = f} {g = g} p q = record { goes = λ l σ τ t. twin-then (λ a. run l (f a)) (λ b. run l (g b)) (λ a b σ τ v t. (q a b v).goes l σ τ t) (p.goes l σ τ t) }

  -- the same value on both sides
  pub alike-bind : {A C D : Type 0} {P Q R : Words} {Wal : C → D → Type 0} {m n : Computation A} {f : A → Computation C} {g : A → Computation D}
      → Alike All π Visible P Q Equal m n → ((a : A) → Alike All π Visible Q R Wal (f a) (g a)) → Alike All π Visible P R Wal (m >>= f) (n >>= g)
  alike-bind p q = alike_then p (λ a b e. rw (← e) (q a))

  -- what follows a value that is there
  pub alike-after : {A B C D : Type 0} {P R : Words} {Wal : C → D → Type 0} {a : A} {b : B} {f : A → Computation C} {g : B → Computation D}
      → Alike All π Visible P R Wal (f a) (g b) → Alike All π Visible P R Wal (ret a >>= f) (ret b >>= g)
  unfolding run
  alike-after p = record { goes = p.goes }

  -- ---- steps

  step-twins : {P : Words} → Visible within P → (l : Limit) (σ τ : State) → Twin All π P σ τ → TwinResult All π Visible {A = Unit {0}} P Equal (run_step l σ) (run_step l τ)
  step-twins {P} v l σ τ t = rw (room-same l t) (by (has_room l σ))
    where
      by : (room : Bool) → TwinResult All π Visible {A = Unit {0}} P Equal (pick room (ok tt (stepped σ)) (stopped spent σ)) (pick room (ok tt (stepped τ)) (stopped spent τ))
      by true = twin-ok refl (record { values = t.values; inside = t.inside; counts = ap (λ (n : ℕ). suc n) t.counts; writes = t.writes })
      by false = twin-stopped (twin-fewer v t)

  alike-step : {P : Words} → Visible within P → Alike All π Visible P P Equal step step
  unfolding run
  alike-step v = record { goes = step-twins v }

  pub alike-enter : {A B : Type 0} {P Q : Words} {Val : A → B → Type 0} {m : Computation A} {n : Computation B} → Visible within P → Alike All π Visible P Q Val m n → Alike All π Visible P Q Val (enter m) (enter n)
  alike-enter v p = alike_then (alike-step v) (λ _ _ _. p)

  -- ---- words

  pub alike-load : {P : Words} {i j : ℕ} → There P π i j → Alike All π Visible P P Equal (load i) (load j)
  unfolding run
  alike-load {i = i} there = record { goes = λ l σ τ t. rw there.1 (twin-ok (sym (t.values i there.0)) t) }

  -- a word that is written is known from then on
  pub alike-save : {P Q : Words} (i : ℕ) (v : ℤ) → ((i j : ℕ) → All i → All j → π i ≡ π j → i ≡ j) → Q within All → All i → ((j : ℕ) → Q j → (j ≡ i → ⊥) → P j)
      → Alike All π Visible P Q Equal (save i v) (save (π i) v)
  unfolding run
  alike-save {P} {Q} i v apart named here h = record { goes = λ l σ τ t. twin-ok refl (saved σ τ t) }
    where
      at : (σ τ : State) → Twin All π P σ τ → (j : ℕ) → Q j → Dec (j ≡ i) → get_or (set τ.store (π i) v) (π j) (pos 0) ≡ get_or (set σ.store i v) j (pos 0)
      at σ τ t j q (yes e) = rw e (get_or-set_same τ.store (π i) v (pos 0) (t.inside i here).1 ∙ sym (get_or-set_same σ.store i v (pos 0) (t.inside i here).0))
      at σ τ t j q (no d) =
          get_or-set_other τ.store (π i) (π j) v (pos 0) (λ e. d (apart j i (named j q) here e)) ∙ t.values j (h j q d) ∙ sym (get_or-set_other σ.store i j v (pos 0) d)

      saved : (σ τ : State) → Twin All π P σ τ → Twin All π Q (written i v σ) (written (π i) v τ)
      saved σ τ t =
          record {
            values = λ j q. at σ τ t j q (ℕ_discrete j i);
            inside = λ j a. (rw (length-set σ.store i v) (t.inside j a).0, rw (length-set τ.store (π i) v) (t.inside j a).1);
            counts = t.counts;
            writes = rw t.counts (ap (λ (ws : List Write). moved π (record { place = i; value = v; when = σ.count }) ∷ ws) t.writes);
          }

  -- ---- outcomes, tests, loops

  pub alike-fail : {A B : Type 0} {P Q : Words} {Val : A → B → Type 0} (sort : FaultSort) → Visible within P → Alike All π Visible P Q Val (fail sort) (fail sort)
  unfolding run
  alike-fail sort v = record { goes = λ l σ τ t. twin-stopped (twin-fewer v t) }

  pub alike-settle : {A : Type 0} {P : Words} {Val : A → A → Type 0} (o : Outcome A FaultSort) → Visible within P → ((a : A) → o ≡ Ok a → Val a a) → Alike All π Visible P P Val (settle o) (settle o)
  alike-settle (Ok a) v k = alike-ret (k a refl)
  alike-settle (Err sort) v k = alike-fail sort v

  pub alike-pick : {A B : Type 0} {P Q : Words} {Val : A → B → Type 0} (b : Bool) {m m' : Computation A} {n n' : Computation B}
      → Alike All π Visible P Q Val m n → Alike All π Visible P Q Val m' n' → Alike All π Visible P Q Val (pick b m m') (pick b n n')
  alike-pick true p q = p
  alike-pick false p q = q

  module _ {A B : Type 0} {P : Words} {Val : A → B → Type 0} (v : Visible within P) (l : Limit) (f : State → Result (Turn A)) (g : State → Result (Turn B))
      (body : (σ τ : State) → Twin All π P σ τ → TwinResult All π Visible P (TurnOf Val) (f σ) (g τ)) where
    iterate-twins : (n : ℕ) (σ τ : State) → Twin All π P σ τ → TwinResult All π Visible P Val (iterate l n f σ) (iterate l n g τ)
    iterate-twins zero σ τ t = twin-stopped (twin-fewer v t)
    iterate-twins (suc n) σ τ t =
        twin-then _ _ (λ _ _ σ τ _ t. twin-then _ _ (λ a b σ τ w t. turned a b (iterate-twins n) w t) (body σ τ t)) (step-twins v l σ τ t)
      where
        turned : (a : Turn A) (b : Turn B) → ((σ τ : State) → Twin All π P σ τ → TwinResult All π Visible P Val (iterate l n f σ) (iterate l n g τ)) → {σ τ : State}
            → TurnOf Val a b → Twin All π P σ τ → TwinResult All π Visible P Val (after_turn (iterate l n f) a σ) (after_turn (iterate l n g) b τ)
        turned again again k w t = k _ _ t
        turned again (leave b) k w t = absurd w
        turned (leave a) again k w t = absurd w
        turned (leave a) (leave b) k w t = twin-ok w t

  pub alike-loop : {A B : Type 0} {P : Words} {Val : A → B → Type 0} {m : Computation (Turn A)} {n : Computation (Turn B)} → Visible within P
      → Alike All π Visible P P (TurnOf Val) m n → Alike All π Visible P P Val (loop m) (loop n)
  unfolding run
  alike-loop {m = m} {n = n} v p =
      record { goes = λ l σ τ t. rw (rounds-same l t) (iterate-twins v l (run l m) (run l n) (λ σ τ t. p.goes l σ τ t) (rounds_from l σ) σ τ t) }

-- ---- starts and ends

-- two stores with the same values in the known words
pub twin-start : {All : Words} {π : ℕ → ℕ} {P : Words} (s t : List ℤ) → ((i : ℕ) → P i → get_or t (π i) (pos 0) ≡ get_or s i (pos 0)) → ((i : ℕ) → All i → (i < length s) × (π i < length t)) → Twin All π P (start s) (start t)
twin-start s t values inside = record { values = values; inside = inside; counts = refl; writes = refl }

module _ {All : Words} {π : ℕ → ℕ} {Visible Q : Words} {A B : Type 0} {Val : A → B → Type 0} where
  pub twin-ending : {r : Result A} {q : Result B} → TwinResult All π Visible Q Val r q → ending_of q ≡ ending_of r
  twin-ending (twin-ok v t) = refl
  twin-ending (twin-stopped {why = spent} t) = refl
  twin-ending (twin-stopped {why = fault sort} t) = refl

  -- count, writes and visible words, however the runs ended
  pub twin-final : {r : Result A} {q : Result B} → Visible within Q → TwinResult All π Visible Q Val r q → Twin All π Visible (final r) (final q)
  twin-final h (twin-ok v t) = twin-fewer h t
  twin-final h (twin-stopped t) = t
