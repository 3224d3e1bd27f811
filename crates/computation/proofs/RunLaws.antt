-- Laws of runs: counts, stores, writes; wider limits; budgets and rounds; loops unrolled; when writes are made. Each by induction on computations.
use Rattle.std.specs.Prelude.{◌≡◌, Bool, true, false, List, [], ◌∷◌, ◌++◌, ℕ, zero, suc, ◌+◌, ◌-◌, ◌≤◌, ◌<◌, ltb, ℤ, length}
use Rattle.std.proofs.Math.Path.{refl}
use Rattle.std.proofs.Common.{sym, ◌∙◌, ap, arith, ltb-true, ltb-false, lt-ltb, le-ltb, length-set}
use Rattle.words.specs.Word.{pick}
use Rattle.computation.specs.Computation.{Turn, again, leave, Computation, ret, ◌>>=◌, ◌>>◌, step, load, save, fail, loop}
use Rattle.computation.specs.Run.{Write, State, stepped, written, spent, fault, Result, ok, stopped, Limit, steps, rounds, and_then, has_room, run_step, rounds_from, after_turn, iterate, run, final, Settled}

-- ---- a run goes from its first state to its last by counted steps and by writes

pub data Reaches (σ : State) : State → Type 0 where
  here : Reaches σ σ
  counted : {τ : State} → Reaches σ τ → Reaches σ (stepped τ)
  wrote : {τ : State} (i : ℕ) (v : ℤ) → Reaches σ τ → Reaches σ (written i v τ)

reaches-trans : {ρ σ τ : State} → Reaches ρ σ → Reaches σ τ → Reaches ρ τ
reaches-trans p here = p
reaches-trans p (counted q) = counted (reaches-trans p q)
reaches-trans p (wrote i v q) = wrote i v (reaches-trans p q)

pub reaches-count : {σ τ : State} → Reaches σ τ → σ.count ≤ τ.count
reaches-count here = omega arith
reaches-count (counted p) = omega (arith, reaches-count p)
reaches-count (wrote i v p) = reaches-count p

pub reaches-length : {σ τ : State} → Reaches σ τ → length τ.store ≡ length σ.store
reaches-length here = refl
reaches-length (counted p) = reaches-length p
reaches-length (wrote {τ} i v p) = length-set τ.store i v ∙ reaches-length p

-- Every write of the list was made when the count was from `least` to `most`.
pub data Timed (least most : ℕ) : List Write → Type 0 where
  timed_none : Timed least most []
  timed_more : {w : Write} {ws : List Write} → least ≤ w.when → w.when ≤ most → Timed least most ws → Timed least most (w ∷ ws)

-- The writes that a run added to those of σ, made within the given counts.
pub record Added (least : ℕ) (σ τ : State) : Type 0 where
  pub added : List Write
  pub writes_are : τ.writes ≡ added ++ σ.writes
  pub in_time : Timed least τ.count added

pub timed-wider : {least less most more : ℕ} {ws : List Write} → less ≤ least → most ≤ more → Timed least most ws → Timed less more ws
timed-wider g h timed_none = timed_none
timed-wider g h (timed_more {w = w} p q m) = timed_more {w = w} (omega arith) (omega arith) (timed-wider g h m)

reaches-added : {σ τ : State} → Reaches σ τ → Added σ.count σ τ
reaches-added here = record { added = []; writes_are = refl; in_time = timed_none }
reaches-added (counted p) = let r = reaches-added p in record { added = r.added; writes_are = r.writes_are; in_time = timed-wider (omega arith) (omega arith) r.in_time }
reaches-added (wrote {τ} i v p) =
    let r = reaches-added p in
    let w : Write = record { place = i; value = v; when = τ.count } in
    record { added = w ∷ r.added; writes_are = ap (λ l. w ∷ l) r.writes_are; in_time = timed_more {w = w} (reaches-count p) (omega arith) r.in_time }

pub reaches-writes : {σ τ : State} → Reaches σ τ → (ws : List Write) × (τ.writes ≡ ws ++ σ.writes)
reaches-writes p = let r = reaches-added p in (r.added, r.writes_are)

reaches_step : (l : Limit) (σ : State) → Reaches σ (final (run_step l σ))
reaches_step l σ = by (has_room l σ)
  where
    by : (room : Bool) → Reaches σ (final (pick room (ok (tt {0}) (stepped σ)) (stopped spent σ)))
    by true = counted here
    by false = here

reaches_then : {A B : Type 0} {σ : State} (r : Result A) (next : A → State → Result B) → Reaches σ (final r) → ((a : A) (τ : State) → Reaches τ (final (next a τ))) → Reaches σ (final (and_then r next))
reaches_then (ok a τ) next p q = reaches-trans p (q a τ)
reaches_then (stopped why τ) next p q = p

module _ {A : Type 0} (l : Limit) (body : State → Result (Turn A)) (reaches-body : (σ : State) → Reaches σ (final (body σ))) where
  reaches-iterate : (n : ℕ) (σ : State) → Reaches σ (final (iterate l n body σ))
  reaches-iterate zero σ = here
  reaches-iterate (suc n) σ = reaches_then (run_step l σ) _ (reaches_step l σ) (λ _ τ. reaches_then (body τ) _ (reaches-body τ) (elim [ again ↦ reaches-iterate n | leave a ↦ λ τ. here ]))

  reaches-turn : (n : ℕ) (t : Turn A) (σ : State) → Reaches σ (final (after_turn (iterate l n body) t σ))
  reaches-turn n again σ = reaches-iterate n σ
  reaches-turn n (leave a) σ = here

pub run-reaches : {A : Type 0} (l : Limit) (m : Computation A) (σ : State) → Reaches σ (final (run l m σ))
unfolding run
run-reaches l m = elim m as (λ A m. (σ : State) → Reaches σ (final (run l m σ))) [
  | ret a ↦ λ σ. here
  | (m → reaches-m) >>= (k → reaches-k) ↦ λ σ. reaches_then (run l m σ) _ (reaches-m σ) reaches-k
  | step ↦ λ σ. reaches_step l σ
  | load i ↦ λ σ. here
  | save i v ↦ λ σ. wrote i v here
  | fail sort ↦ λ σ. here
  | loop (body → reaches-body) ↦ λ σ. reaches-iterate l (run l body) reaches-body (rounds_from l σ) σ
]

module _ {A : Type 0} (l : Limit) (m : Computation A) (σ : State) where
  -- The count never falls.
  pub count-never-falls : σ.count ≤ (final (run l m σ)).count
  count-never-falls = reaches-count (run-reaches l m σ)

  -- The store keeps its length.
  pub store-keeps-length : length (final (run l m σ)).store ≡ length σ.store
  store-keeps-length = reaches-length (run-reaches l m σ)

  -- Writes are only added.
  pub writes-only-added : (ws : List Write) × ((final (run l m σ)).writes ≡ ws ++ σ.writes)
  writes-only-added = reaches-writes (run-reaches l m σ)

-- ---- under `steps b` the count never passes b, and spent means that it is b

abbrev pub Within : {A : Type 0} → ℕ → Result A → Type 0
Within b (ok a σ) = σ.count ≤ b
Within b (stopped spent σ) = σ.count ≡ b
Within b (stopped (fault sort) σ) = σ.count ≤ b

within-then : {A B : Type 0} (b low : ℕ) (r : Result A) (next : A → State → Result B) → low ≤ (final r).count → Within b r
    → ((a : A) (τ : State) → low ≤ τ.count → τ.count ≤ b → Within b (next a τ)) → Within b (and_then r next)
within-then b low (ok a τ) next u w k = k a τ u w
within-then b low (stopped spent τ) next u w k = w
within-then b low (stopped (fault sort) τ) next u w k = w

module _ (b : ℕ) where
  within_step : (σ : State) → σ.count ≤ b → Within b (run_step (steps b) σ)
  within_step σ h = by (ltb σ.count b) refl
    where
      by : (room : Bool) → ltb σ.count b ≡ room → Within b (pick room (ok (tt {0}) (stepped σ)) (stopped spent σ))
      by true e = ltb-true σ.count b e
      by false e = omega (arith, ltb-false σ.count b e)

  -- A step that was made is one more.
  step_counts : {A : Type 0} (σ : State) (next : State → Result A) → ((τ : State) → suc σ.count ≤ τ.count → τ.count ≤ b → Within b (next τ)) → σ.count ≤ b
      → Within b (and_then (run_step (steps b) σ) (λ _. next))
  step_counts σ next k h = by (ltb σ.count b) refl
    where
      by : (room : Bool) → ltb σ.count b ≡ room → Within b (and_then (pick room (ok (tt {0}) (stepped σ)) (stopped spent σ)) (λ _. next))
      by true e = k (stepped σ) (omega arith) (ltb-true σ.count b e)
      by false e = omega (arith, ltb-false σ.count b e)

  module _ {A : Type 0} (body : State → Result (Turn A)) (reaches-body : (σ : State) → Reaches σ (final (body σ))) (within-body : (σ : State) → σ.count ≤ b → Within b (body σ)) where
    within-iterate : (n : ℕ) (σ : State) → b < σ.count + n → σ.count ≤ b → Within b (iterate (steps b) n body σ)
    within-iterate zero σ enough h = absurd (omega arith)
    within-iterate (suc n) σ enough h = step_counts σ _ (λ τ up most. within-then b (suc σ.count) (body τ) _ (omega (arith, reaches-count (reaches-body τ))) (within-body τ most) (turned (within-iterate n))) h
      where
        turned : ((τ : State) → b < τ.count + n → τ.count ≤ b → Within b (iterate (steps b) n body τ))
            → (t : Turn A) (τ : State) → suc σ.count ≤ τ.count → τ.count ≤ b → Within b (after_turn (iterate (steps b) n body) t τ)
        turned k again τ up most = k τ (omega arith) most
        turned k (leave a) τ up most = most

  pub within-budget : {A : Type 0} (m : Computation A) (σ : State) → σ.count ≤ b → Within b (run (steps b) m σ)
  unfolding run
  within-budget m = elim m as (λ A m. (σ : State) → σ.count ≤ b → Within b (run (steps b) m σ)) [
    | ret a ↦ λ σ h. h
    | (m → within-m) >>= (k → within-k) ↦ λ σ h. within-then b 0 (run (steps b) m σ) _ (omega arith) (within-m σ h) (λ a τ _. within-k a τ)
    | step ↦ λ σ h. within_step σ h
    | load i ↦ λ σ h. h
    | save i v ↦ λ σ h. h
    | fail sort ↦ λ σ h. h
    | loop (body → within-body) ↦ λ σ h. within-iterate (run (steps b) body) (run-reaches (steps b) body) within-body (suc (b - σ.count)) σ (omega arith) h
  ]

within-most : {A : Type 0} (b : ℕ) (r : Result A) → Within b r → (final r).count ≤ b
within-most b (ok a σ) w = w
within-most b (stopped spent σ) w = omega arith
within-most b (stopped (fault sort) σ) w = w

module _ {A : Type 0} (b : ℕ) (m : Computation A) (σ : State) (h : σ.count ≤ b) where
  -- The count never passes the budget.
  pub count-never-passes : (final (run (steps b) m σ)).count ≤ b
  count-never-passes = within-most b (run (steps b) m σ) (within-budget b m σ h)

  -- Spent means that the count is the budget.
  pub spent-is-budget : (τ : State) → run (steps b) m σ ≡ stopped spent τ → τ.count ≡ b
  spent-is-budget τ e = rw e at (within-budget b m σ h)

-- ---- a run under a narrower limit is the run under the wider one, perhaps cut short

pub record Narrower (l w : Limit) : Type 0 where
  pub fewer : (σ : State) → rounds_from l σ ≤ rounds_from w σ
  pub wider : (σ : State) → has_room l σ ≡ true → has_room w σ ≡ true

-- `Beyond σ r`: r goes on from σ by a counted step, or stops in σ for want of it.
data Beyond {A : Type 0} (σ : State) : Result A → Type 0 where
  there : Beyond σ (stopped spent σ)
  past : {r : Result A} → Reaches (stepped σ) (final r) → Beyond σ r

-- What the wider limit gives, for what the narrower one gave.
abbrev CutShort : {A : Type 0} → Result A → Result A → Type 0
CutShort (ok a σ) r = r ≡ ok a σ
CutShort (stopped spent σ) r = Beyond σ r
CutShort (stopped (fault sort) σ) r = r ≡ stopped (fault sort) σ

beyond-reaches : {A : Type 0} {σ : State} {r : Result A} → Beyond σ r → Reaches σ (final r)
beyond-reaches there = here
beyond-reaches (past p) = reaches-trans (counted here) p

beyond-then : {A B : Type 0} {σ : State} {r : Result A} (next : A → State → Result B) → ((a : A) (τ : State) → Reaches τ (final (next a τ))) → Beyond σ r → Beyond σ (and_then r next)
beyond-then next q there = there
beyond-then next q (past {r} p) = past (reaches_then r next p q)

beyond-step : {A : Type 0} (l : Limit) (σ : State) (next : State → Result A) → ((τ : State) → Reaches τ (final (next τ))) → Beyond σ (and_then (run_step l σ) (λ _. next))
beyond-step {A} l σ next q = by (has_room l σ)
  where
    by : (room : Bool) → Beyond σ (and_then (pick room (ok (tt {0}) (stepped σ)) (stopped spent σ)) (λ _. next))
    by true = past (q (stepped σ))
    by false = there

cut-then : {A B : Type 0} (r w : Result A) (f g : A → State → Result B) → ((a : A) (τ : State) → Reaches τ (final (g a τ))) → CutShort r w → ((a : A) (τ : State) → CutShort (f a τ) (g a τ)) → CutShort (and_then r f) (and_then w g)
cut-then (ok a τ) w f g p c d = rw c (d a τ)
cut-then (stopped spent τ) w f g p c d = beyond-then g p c
cut-then (stopped (fault sort) τ) w f g p c d = rw c

module _ (l w : Limit) (n : Narrower l w) where
  cut_step : (σ : State) → CutShort (run_step l σ) (run_step w σ)
  cut_step σ = by (has_room l σ) (has_room w σ) (n.wider σ)
    where
      by : (r s : Bool) → (r ≡ true → s ≡ true) → CutShort (pick r (ok (tt {0}) (stepped σ)) (stopped spent σ)) (pick s (ok (tt {0}) (stepped σ)) (stopped spent σ))
      by true s h = rw (h refl)
      by false true h = past here
      by false false h = there

  module _ {A : Type 0} (body bodies : State → Result (Turn A)) (reaches-bodies : (σ : State) → Reaches σ (final (bodies σ))) (cut-body : (σ : State) → CutShort (body σ) (bodies σ)) where
    reaches-round : (k : ℕ) (σ : State) → Reaches σ (final (and_then (bodies σ) (after_turn (iterate w k bodies))))
    reaches-round k σ = reaches_then (bodies σ) _ (reaches-bodies σ) (reaches-turn w bodies reaches-bodies k)

    cut-iterate : (i k : ℕ) → i ≤ k → (σ : State) → CutShort (iterate l i body σ) (iterate w k bodies σ)
    cut-iterate zero zero h σ = there
    cut-iterate zero (suc k) h σ = beyond-step w σ _ (reaches-round k)
    cut-iterate (suc i) zero h σ = absurd (omega arith)
    cut-iterate (suc i) (suc k) h σ = cut-then (run_step l σ) (run_step w σ) _ _ (λ _. reaches-round k) (cut_step σ)
        (λ _ τ. cut-then (body τ) (bodies τ) _ _ (reaches-turn w bodies reaches-bodies k) (cut-body τ) (elim [ again ↦ cut-iterate i k (omega arith) | leave a ↦ λ τ. refl ]))

  cut-run : {A : Type 0} (m : Computation A) (σ : State) → CutShort (run l m σ) (run w m σ)
  unfolding run
  cut-run m = elim m as (λ A m. (σ : State) → CutShort (run l m σ) (run w m σ)) [
    | ret a ↦ λ σ. refl
    | (m → cut-m) >>= (k → cut-k) ↦ λ σ. cut-then (run l m σ) (run w m σ) _ _ (λ a. run-reaches w (k a)) (cut-m σ) cut-k
    | step ↦ λ σ. cut_step σ
    | load i ↦ λ σ. refl
    | save i v ↦ λ σ. refl
    | fail sort ↦ λ σ. refl
    | loop (body → cut-body) ↦ λ σ. cut-iterate (run l body) (run w body) (run-reaches w body) cut-body (rounds_from l σ) (rounds_from w σ) (n.fewer σ) σ
  ]

settled-uncut : {A : Type 0} (r w : Result A) → CutShort r w → Settled r → w ≡ r
settled-uncut (ok a τ) w c s = c
settled-uncut (stopped spent τ) w c s = absurd s
settled-uncut (stopped (fault sort) τ) w c s = c

cut-reaches : {A : Type 0} (r w : Result A) → CutShort r w → Reaches (final r) (final w)
cut-reaches (ok a τ) w c = rw c here
cut-reaches (stopped spent τ) w c = beyond-reaches c
cut-reaches (stopped (fault sort) τ) w c = rw c here

beyond-late : {A : Type 0} {σ : State} {r : Result A} → Beyond σ r → Settled r → σ.count < (final r).count
beyond-late there s = absurd s
beyond-late (past p) s = reaches-count p

-- A result within b that was cut short is the whole result, if that took no more than b steps.
within-uncut : {A : Type 0} (b : ℕ) (r w : Result A) → Within b r → CutShort r w → Settled w → (final w).count ≤ b → r ≡ w
within-uncut b (ok a τ) w i c s most = sym c
within-uncut b (stopped (fault sort) τ) w i c s most = sym c
within-uncut b (stopped spent τ) w i c s most = absurd (omega (arith, beyond-late c s))

pub wider-budget : (b d : ℕ) → b ≤ d → Narrower (steps b) (steps d)
wider-budget b d h = record { fewer = λ σ. omega arith; wider = λ σ e. lt-ltb σ.count d (omega (arith, ltb-true σ.count b e)) }

pub enough-rounds : (b c : ℕ) → b < c → Narrower (steps b) (rounds c)
enough-rounds b c h = record { fewer = λ σ. omega arith; wider = λ σ e. refl }

pub wider-rounds : (c d : ℕ) → c ≤ d → Narrower (rounds c) (rounds d)
wider-rounds c d h = record { fewer = λ σ. h; wider = λ σ e. refl }

module _ {A : Type 0} (m : Computation A) (σ : State) where
  -- A run that is not spent is the same under every wider limit.
  pub run_wider : (l w : Limit) → Narrower l w → Settled (run l m σ) → run w m σ ≡ run l m σ
  run_wider l w n = settled-uncut (run l m σ) (run w m σ) (cut-run l w n m σ)

  -- The writes under a narrower limit are the first ones of those under the wider one.
  pub writes-wider : (l w : Limit) → Narrower l w → (ws : List Write) × ((final (run w m σ)).writes ≡ ws ++ (final (run l m σ)).writes)
  writes-wider l w n = reaches-writes (cut-reaches (run l m σ) (run w m σ) (cut-run l w n m σ))

  -- A run that ends under some budget is the run under enough rounds.
  pub budget-rounds : (b c : ℕ) → b < c → Settled (run (steps b) m σ) → run (rounds c) m σ ≡ run (steps b) m σ
  budget-rounds b c h = run_wider (steps b) (rounds c) (enough-rounds b c h)

  -- A run that ends under some rounds is the run under every budget that is large enough.
  pub rounds-budget : (c b : ℕ) → Settled (run (rounds c) m σ) → (final (run (rounds c) m σ)).count ≤ b → run (steps b) m σ ≡ run (rounds c) m σ
  rounds-budget c b s most =
      let e = run_wider (rounds c) (rounds (suc (c + b))) (wider-rounds c _ (omega arith)) s in
      within-uncut b (run (steps b) m σ) (run (rounds c) m σ) (within-budget b m σ (omega (arith, count-never-falls (rounds c) m σ)))
      (rw e at (cut-run (steps b) (rounds (suc (c + b))) (enough-rounds b _ (omega arith)) m σ)) s most

-- ---- under `steps b` a loop is its unrolling

abbrev pub turn_of : {A : Type 0} → Computation A → Turn A → Computation A
turn_of more again = more
turn_of more (leave a) = ret a

then_same : {A B : Type 0} (low : ℕ) (r : Result A) (f g : A → State → Result B) → low ≤ (final r).count → ((a : A) (τ : State) → low ≤ τ.count → f a τ ≡ g a τ) → and_then r f ≡ and_then r g
then_same low (ok a τ) f g u h = h a τ u
then_same low (stopped why τ) f g u h = refl

module _ {A : Type 0} (b : ℕ) (body : State → Result (Turn A)) (reaches-body : (σ : State) → Reaches σ (final (body σ))) where
  round_same : (σ : State) (f g : Turn A → State → Result A) → ((t : Turn A) (τ : State) → suc σ.count ≤ τ.count → f t τ ≡ g t τ)
      → and_then (run_step (steps b) σ) (λ _ τ. and_then (body τ) f) ≡ and_then (run_step (steps b) σ) (λ _ τ. and_then (body τ) g)
  round_same σ f g h = by (ltb σ.count b)
    where
      by : (room : Bool) → and_then (pick room (ok (tt {0}) (stepped σ)) (stopped spent σ)) (λ _ τ. and_then (body τ) f) ≡ and_then (pick room (ok (tt {0}) (stepped σ)) (stopped spent σ)) (λ _ τ. and_then (body τ) g)
      by true = then_same (suc σ.count) (body (stepped σ)) f g (reaches-count (reaches-body (stepped σ))) h
      by false = refl

  same-rounds : (n k : ℕ) (σ : State) → b < σ.count + n → b < σ.count + k → iterate (steps b) n body σ ≡ iterate (steps b) k body σ
  same-rounds zero zero σ p q = refl
  same-rounds zero (suc k) σ p q = rw (le-ltb σ.count b (omega arith))
  same-rounds (suc n) zero σ p q = rw (le-ltb σ.count b (omega arith))
  same-rounds (suc n) (suc k) σ p q = round_same σ (after_turn (iterate (steps b) n body)) (after_turn (iterate (steps b) k body)) (elim [ again ↦ λ τ u. same-rounds n k τ (omega arith) (omega arith) | leave a ↦ λ τ u. refl ])

pub unroll : {A : Type 0} (b : ℕ) (m : Computation (Turn A)) (σ : State) → run (steps b) (loop m) σ ≡ run (steps b) (step >> (m >>= turn_of (loop m))) σ
unfolding run
unroll {A} b m σ = round_same b (run (steps b) m) (run-reaches (steps b) m) σ _ _
    (elim [ again ↦ λ τ u. same-rounds b (run (steps b) m) (run-reaches (steps b) m) (b - σ.count) (suc (b - τ.count)) τ (omega arith) (omega arith) | leave a ↦ λ τ u. refl ])

-- ---- when writes are made

later-cut : {A : Type 0} (b : ℕ) (r w : Result A) → Within b r → CutShort r w → Added (suc b) (final r) (final w)
later-cut b (ok a τ) w i c = rw c (record { added = []; writes_are = refl; in_time = timed_none })
later-cut b (stopped (fault sort) τ) w i c = rw c (record { added = []; writes_are = refl; in_time = timed_none })
later-cut b (stopped spent τ) w i there = record { added = []; writes_are = refl; in_time = timed_none }
later-cut b (stopped spent τ) w i (past p) = let r = reaches-added p in record { added = r.added; writes_are = r.writes_are; in_time = timed-wider (omega arith) (omega arith) r.in_time }

module _ {A : Type 0} (m : Computation A) (σ : State) where
  -- The writes of a run were made by its end.
  pub writes-in-time : (l : Limit) → Added σ.count σ (final (run l m σ))
  writes-in-time l = reaches-added (run-reaches l m σ)

  -- What a run under a wider limit writes beyond those of b steps, it writes after b steps.
  pub writes_later : (b : ℕ) (w : Limit) → Narrower (steps b) w → σ.count ≤ b → Added (suc b) (final (run (steps b) m σ)) (final (run w m σ))
  writes_later b w n h = later-cut b (run (steps b) m σ) (run w m σ) (within-budget b m σ h) (cut-run (steps b) w n m σ)
