-- Follows: the flat run goes where the kernel's goes, under every number of rounds. A kernel run that is cut off after c rounds of some
-- loop is at least c lines in the flat list, so that endless runs stay endless; the other way round follows, since the flat run is
-- determined.
use Rattle.std.specs.Prelude.{◌≡◌, Bool, List, ℕ, zero, suc, ◌+◌, ◌≤◌, ℤ, pos, Err, Ok, Result as Outcome}
use Rattle.std.proofs.Math.Path.{refl, ap}
use Rattle.std.proofs.Common.{sym, ◌∙◌, arith, zero-add, suc-add, le_refl, eqb-true}
use Rattle.std.proofs.Math.Bool.{true, false}
use Rattle.std.proofs.lemmas.Bool.{false≢true}
use Rattle.std.proofs.Math.Dec.{eqb}
use Rattle.words.specs.Word.{pick}
use Rattle.words.specs.Layout.{Layout, array_base, array_length}
use Rattle.arithmetic.specs.Arithmetic.{is_true, apply, minus as minus_word, element as element_word}
use Rattle.words.specs.declared.FaultSort.{FaultSort}
use Rattle.computation.specs.Computation.{Turn, again, leave, Computation, ret, ◌>>=◌, ◌>>◌}
use Rattle.computation.specs.Run.{State, stepped, spent, fault, Result, ok, stopped, rounds, and_then, after_turn, iterate, run}
use Rattle.language.specs.Trees.{Expression, label, same_mark, Statement, express, block, if_else, while, Items, ◌then◌, ◌here◌}
use Rattle.language.specs.Functions.{plain}
use Rattle.language.specs.Meaning.{Signal, next, seeking, enters_statement, enters_mark, enter, evaluate, after_body, after_test, perform, items}
use Rattle.flat.specs.Lines.{Operand, number, Operation, stored, fetched, put_at, value_of, FlatLine, does, jump, jump_zero, jump_other, goes, faults, onward, next_at}
use Rattle.flat_fate.specs.Stands.{Means, means_number, means_word, Acts, acts_copy, acts_minus, acts_operate, acts_fetch, acts_put, At, Stands, stands-empty, stands-assign, stands-block, stands-neither, stands-yes, stands-no, stands-both, stands-while, stands-endless, stands-goto, stands-abort, StandsItems, stands-none, stands-then, stands-label}

by-outcome : {A G : Type 0} (o : Outcome A FaultSort) → ((a : A) → o ≡ Ok a → G) → ((sort : FaultSort) → o ≡ Err sort → G) → G
by-outcome (Ok a) y n = y a refl
by-outcome (Err sort) y n = n sort refl

module _ (L : Layout) (lines : List FlatLine) (address : ℕ → ℕ) where
  -- In n lines from line i with the store s to line j with the store t.
  pub data Reaches : ℕ → List ℤ → ℕ → ℕ → List ℤ → Type 0 where
    stay : {i : ℕ} {s : List ℤ} → Reaches i s 0 i s
    on : {i j k n : ℕ} {s t u : List ℤ} → next_at L lines i i s ≡ goes j t → Reaches j t n k u → Reaches i s (suc n) k u

  reaches-trans : {i j k n m : ℕ} {s t u : List ℤ} → Reaches i s n j t → Reaches j t m k u → Reaches i s (n + m) k u
  reaches-trans stay q = rw zero-add q
  reaches-trans (on f p) q = rw suc-add (on f (reaches-trans p q))

  reaches-last : {i j k n : ℕ} {s t u : List ℤ} → Reaches i s n j t → next_at L lines j j t ≡ goes k u → Reaches i s (suc n) k u
  reaches-last stay e = on e stay
  reaches-last (on f p) e = on f (reaches-last p e)

  -- Where the flat run stands after a signal, behind code that ends at line j: at j, or at the label that is sought.
  pub data Moves (j : ℕ) : Signal → ℕ → Type 0 where
    moves-on : Moves j next j
    moves-to : {l : ℕ} → Moves j (seeking (label l)) (address l)

  -- What the flat run from line i does, for what the kernel gave; `least` lines at least where the kernel was cut off.
  pub data Follows (least i : ℕ) (s : List ℤ) (j : ℕ) : Result Signal → Type 0 where
    follows-ok : {n k : ℕ} {signal : Signal} {τ : State} → Reaches i s n k τ.store → Moves j signal k → Follows least i s j (ok signal τ)
    follows-fault : {n k : ℕ} {sort : FaultSort} {τ : State} → Reaches i s n k τ.store → next_at L lines k k τ.store ≡ faults sort → Follows least i s j (stopped (fault sort) τ)
    follows-spent : {n k : ℕ} {t : List ℤ} {τ : State} → least ≤ n → Reaches i s n k t → Follows least i s j (stopped spent τ)

  -- ---- sequences

  -- Lines before.
  behind : {least i at n k : ℕ} {s t : List ℤ} {r : Result Signal} → Reaches i s n at t → Follows least at t k r → Follows least i s k r
  behind p (follows-ok q m) = follows-ok (reaches-trans p q) m
  behind p (follows-fault q e) = follows-fault (reaches-trans p q) e
  behind {least} {n = n} p (follows-spent {n = m} b q) = follows-spent {n = n + m} (omega arith) (reaches-trans p q)

  follows_then : {least i : ℕ} {s : List ℤ} (j k : ℕ) {r : Result Signal} (f : Signal → State → Result Signal) → Follows least i s j r
      → ((signal : Signal) (at : ℕ) (τ : State) → Moves j signal at → Follows least at τ.store k (f signal τ)) → Follows least i s k (and_then r f)
  follows_then j k f (follows-ok {k = at} {signal} {τ} p m) h = behind p (h signal at τ m)
  follows_then j k f (follows-fault p e) h = follows-fault p e
  follows_then j k f (follows-spent b p) h = follows-spent b p

  -- ---- operations

  module _ (c : ℕ) where
    means-run : {e : Expression} {a : Operand} → Means e a → (σ : State) → run (rounds c) (evaluate (plain L) e) σ ≡ ok (value_of a σ.store) σ
    unfolding run evaluate
    means-run means_number σ = refl
    means-run means_word σ = refl

    assign-follows : {i : ℕ} {e : Expression} {o : Operation} → Acts e o → At L lines address i (does o) → (σ : State) → Follows c i σ.store (suc i) (run (rounds c) (perform (plain L) (express e)) σ)
    unfolding run perform evaluate
    assign-follows {i} (acts_copy m) at σ = rw (means-run m) (follows-ok (on (at σ.store) stay) moves-on)
    assign-follows {i} (acts_minus {i = x} {a = a} m) at σ = rw (means-run m, and_then) (by-outcome (minus_word (value_of a σ.store))
        (λ v f. rw f (follows-ok (on (at σ.store ∙ ap (λ q. onward i (stored x σ.store q)) f) stay) moves-on))
        (λ sort f. rw f (follows-fault stay (at σ.store ∙ ap (λ q. onward i (stored x σ.store q)) f))))
    assign-follows {i} (acts_operate {operator} {i = x} {a = a} {b = b} m n) at σ = rw (means-run n, run, means-run m, and_then) (by-outcome (apply operator (value_of a σ.store) (value_of b σ.store))
        (λ v f. rw f (follows-ok (on (at σ.store ∙ ap (λ q. onward i (stored x σ.store q)) f) stay) moves-on))
        (λ sort f. rw f (follows-fault stay (at σ.store ∙ ap (λ q. onward i (stored x σ.store q)) f))))
    assign-follows {i} (acts_fetch {i = x} {array} {a = a} m) at σ = rw (means-run m, and_then) (by-outcome (element_word (array_base L array) (array_length L array) (value_of a σ.store))
        (λ v f. rw f (follows-ok (on (at σ.store ∙ ap (λ q. onward i (fetched x σ.store q)) f) stay) moves-on))
        (λ sort f. rw f (follows-fault stay (at σ.store ∙ ap (λ q. onward i (fetched x σ.store q)) f))))
    assign-follows {i} (acts_put {array} {a = a} {b = b} m n) at σ = rw (means-run n, run, means-run m, and_then) (by-outcome (element_word (array_base L array) (array_length L array) (value_of a σ.store))
        (λ v f. rw f (follows-ok (on (at σ.store ∙ ap (λ q. onward i (put_at (value_of b σ.store) σ.store q)) f) stay) moves-on))
        (λ sort f. rw f (follows-fault stay (at σ.store ∙ ap (λ q. onward i (put_at (value_of b σ.store) σ.store q)) f))))

    -- ---- a list passed over, or met at one of its labels

    at-statement : {i j at : ℕ} (s : Statement) {signal : Signal} → ((σ : State) → Follows c i σ.store j (run (rounds c) (perform (plain L) s) σ)) → Moves i signal at
        → (σ : State) → Follows c at σ.store j (run (rounds c) (pick (enters_statement signal) (enter (perform (plain L) s)) (ret signal)) σ)
    unfolding run
    at-statement s h moves-on σ = h (stepped σ)
    at-statement s h moves-to σ = follows-ok stay moves-to

    at_label : {i at : ℕ} (l : ℕ) {signal : Signal} → address l ≡ i → Moves i signal at → (σ : State) → Follows c at σ.store i (run (rounds c) (pick (enters_mark signal (label l)) (enter (ret next)) (ret signal)) σ)
    unfolding run same_mark
    at_label l e moves-on σ = follows-ok stay moves-on
    at_label {i} l e (moves-to {l = k}) σ = go (eqb k l) refl
      where
        go : (b : Bool) → eqb k l ≡ b → Follows c (address k) σ.store i (run (rounds c) (pick b (enter (ret next)) (ret (seeking (label k)))) σ)
        go true f = rw (ap address (eqb-true k l f) ∙ e) (follows-ok stay moves-on)
        go false f = follows-ok stay moves-to

    -- ---- loops: a round comes back to the loop's first line by at least one line, or leaves

    data Round (i : ℕ) (s : List ℤ) (j : ℕ) : Result (Turn Signal) → Type 0 where
      round-again : {n : ℕ} {τ : State} → Reaches i s (suc n) i τ.store → Round i s j (ok again τ)
      round-leave : {n k : ℕ} {signal : Signal} {τ : State} → Reaches i s n k τ.store → Moves j signal k → Round i s j (ok (leave signal) τ)
      round-fault : {n k : ℕ} {sort : FaultSort} {τ : State} → Reaches i s n k τ.store → next_at L lines k k τ.store ≡ faults sort → Round i s j (stopped (fault sort) τ)
      round-spent : {n k : ℕ} {t : List ℤ} {τ : State} → c ≤ n → Reaches i s n k t → Round i s j (stopped spent τ)

    loop-follows : {i j : ℕ} (body : State → Result (Turn Signal)) → ((σ : State) → Round i σ.store j (body σ)) → (k : ℕ) → k ≤ c → (σ : State) → Follows k i σ.store j (iterate (rounds c) k body σ)
    loop-follows body h zero most σ = follows-spent {n = 0} (omega arith) stay
    loop-follows {i} {j} body h (suc k) most σ = go (h (stepped σ)) (loop-follows body h k (omega arith))
      where
        more : {n at : ℕ} {s t : List ℤ} {r : Result Signal} → Reaches i s (suc n) at t → Follows k at t j r → Follows (suc k) i s j r
        more p (follows-ok q m) = follows-ok (reaches-trans p q) m
        more p (follows-fault q e) = follows-fault (reaches-trans p q) e
        more {n} p (follows-spent {n = m} b q) = follows-spent {n = suc n + m} (omega arith) (reaches-trans p q)

        go : {s : List ℤ} {r : Result (Turn Signal)} → Round i s j r → ((τ : State) → Follows k i τ.store j (iterate (rounds c) k body τ)) → Follows (suc k) i s j (and_then r (after_turn (iterate (rounds c) k body)))
        go (round-again {τ = τ} p) rec = more p (rec τ)
        go (round-leave p m) rec = follows-ok p m
        go (round-fault p e) rec = follows-fault p e
        go (round-spent {n} b p) rec = follows-spent {n = n} (omega arith) p

    -- after a while's body, whose code ends at line k with a jump back to line i
    body-round : {i at k n : ℕ} {s t : List ℤ} {r : Result Signal} → Reaches i s n at t → At L lines address k (jump i) → Follows c at t k r
        → Round i s (suc k) (and_then r (λ signal. run (rounds c) (after_body (ret (pos 0) >> ret again) signal)))
    unfolding run
    body-round p back (follows-ok {τ = τ} q moves-on) = round-again (reaches-last (reaches-trans p q) (back τ.store))
    body-round p back (follows-ok q moves-to) = round-leave (reaches-trans p q) moves-to
    body-round p back (follows-fault q e) = round-fault (reaches-trans p q) e
    body-round {n = n} p back (follows-spent {n = m} b q) = round-spent {n = n + m} (omega arith) (reaches-trans p q)

    -- a test's line: on to the following line, or to its jump
    zero-line : {i : ℕ} (j : ℕ) (a : Operand) → At L lines address i (jump_zero a j) → (s : List ℤ) (b : Bool) → is_true (value_of a s) ≡ b → Reaches i s 1 (pick b (suc i) j) s
    zero-line {i} j a at s b e = on (at s ∙ ap (λ (q : Bool). goes (pick q (suc i) j) s) e) stay

    other-line : {i : ℕ} (j : ℕ) (a : Operand) → At L lines address i (jump_other a j) → (s : List ℤ) (b : Bool) → is_true (value_of a s) ≡ b → Reaches i s 1 (pick b j (suc i)) s
    other-line {i} j a at s b e = on (at s ∙ ap (λ (q : Bool). goes (pick q j (suc i)) s) e) stay

    -- a jump behind code that ends at line k
    jump-behind : {least i : ℕ} (j k : ℕ) {s : List ℤ} {r : Result Signal} → At L lines address k (jump j) → Follows least i s k r → Follows least i s j r
    jump-behind j k at (follows-ok {τ = τ} p moves-on) = follows-ok (reaches-last p (at τ.store)) moves-on
    jump-behind j k at (follows-ok p moves-to) = follows-ok p moves-to
    jump-behind j k at (follows-fault p e) = follows-fault p e
    jump-behind j k at (follows-spent b p) = follows-spent b p

    chosen : {i j : ℕ} {s : List ℤ} (b : Bool) (m n : Computation Signal) (σ : State) → (b ≡ true → Follows c i s j (run (rounds c) m σ)) → (b ≡ false → Follows c i s j (run (rounds c) n σ)) → Follows c i s j (run (rounds c) (pick b m n) σ)
    chosen true m n σ y k = y refl
    chosen false m n σ y k = k refl

    chosen-round : {i j : ℕ} {s : List ℤ} (b : Bool) (m n : Computation (Turn Signal)) (σ : State) → (b ≡ true → Round i s j (run (rounds c) m σ)) → (b ≡ false → Round i s j (run (rounds c) n σ)) → Round i s j (run (rounds c) (pick b m n) σ)
    chosen-round true m n σ y k = y refl
    chosen-round false m n σ y k = k refl

    -- an if: whichever branch is taken, its code is reached, and ends where the if does
    branches : {i j : ℕ} {e : Expression} (a : Operand) (on_true on_false : Items) → Means e a
        → ((σ : State) → is_true (value_of a σ.store) ≡ true → Follows c i σ.store j (run (rounds c) (items (plain L) on_true next) σ))
        → ((σ : State) → is_true (value_of a σ.store) ≡ false → Follows c i σ.store j (run (rounds c) (items (plain L) on_false next) σ))
        → (σ : State) → Follows c i σ.store j (run (rounds c) (perform (plain L) (if_else e (block on_true) (block on_false))) σ)
    unfolding run perform
    branches a on_true on_false m y n σ = rw (means-run m) (chosen (is_true (value_of a σ.store)) (enter (items (plain L) on_true next)) (enter (items (plain L) on_false next)) (stepped σ) (y (stepped (stepped σ))) (n (stepped (stepped σ))))

    -- a loop: from its first line each round comes back there or leaves
    loops : {i j : ℕ} {e : Expression} (a : Operand) (body : Items) → Means e a
        → ((σ : State) → is_true (value_of a σ.store) ≡ true → Round i σ.store j (and_then (run (rounds c) (items (plain L) body next) (stepped σ)) (λ signal. run (rounds c) (after_body (ret (pos 0) >> ret again) signal))))
        → ((σ : State) → is_true (value_of a σ.store) ≡ false → Round i σ.store j (ok (leave next) σ))
        → (σ : State) → Follows c i σ.store j (run (rounds c) (perform (plain L) (while e (block body))) σ)
    unfolding run perform
    loops {i} {j} {e} a body m y n σ = loop-follows (λ τ. run (rounds c) (evaluate (plain L) e >>= λ v. after_test (enter (items (plain L) body next) >>= λ signal. after_body (ret (pos 0) >> ret again) signal) v) τ)
        (λ τ. rw (means-run m) (chosen-round (is_true (value_of a τ.store)) (enter (items (plain L) body next) >>= λ signal. after_body (ret (pos 0) >> ret again) signal) (ret (leave next)) τ (y τ) (n τ))) c (le_refl c) σ

    mutual
      unfolding run perform items evaluate

      pub statement-follows : {i j : ℕ} {s : Statement} → Stands L lines address i s j → (σ : State) → Follows c i σ.store j (run (rounds c) (perform (plain L) s) σ)
      statement-follows stands-empty σ = follows-ok stay moves-on
      statement-follows (stands-assign a at) σ = assign-follows a at σ
      statement-follows (stands-block is) σ = items-follows is moves-on σ
      statement-follows (stands-neither {a = a} {on_true} {on_false} m y n) σ = branches a on_true on_false m (λ τ e. items-follows y moves-on τ) (λ τ e. items-follows n moves-on τ) σ
      statement-follows (stands-yes {j = j} {a = a} {on_true} {on_false} m at y n) σ =
          branches a on_true on_false m (λ τ e. behind (zero-line j a at τ.store true e) (items-follows y moves-on τ)) (λ τ e. behind (zero-line j a at τ.store false e) (items-follows n moves-on τ)) σ
      statement-follows (stands-no {j = j} {a = a} {on_true} {on_false} m at y n) σ =
          branches a on_true on_false m (λ τ e. behind (other-line j a at τ.store true e) (items-follows y moves-on τ)) (λ τ e. behind (other-line j a at τ.store false e) (items-follows n moves-on τ)) σ
      statement-follows (stands-both {j = j} {k = k} {a = a} {on_true} {on_false} m at y skip n) σ =
          branches a on_true on_false m (λ τ e. behind (zero-line (suc k) a at τ.store true e) (jump-behind j k skip (items-follows y moves-on τ))) (λ τ e. behind (zero-line (suc k) a at τ.store false e) (items-follows n moves-on τ)) σ
      statement-follows (stands-while {k = k} {a = a} {body} m at b back) σ =
          loops a body m (λ τ e. body-round (zero-line (suc k) a at τ.store true e) back (items-follows b moves-on (stepped τ))) (λ τ e. round-leave (zero-line (suc k) a at τ.store false e) moves-on) σ
      statement-follows (stands-endless {v = v} {body} t b back) σ =
          loops (number v) body means_number (λ τ e. body-round stay back (items-follows b moves-on (stepped τ))) (λ τ e. absurd (false≢true (sym e ∙ t))) σ
      statement-follows (stands-goto at) σ = follows-ok (on (at σ.store) stay) moves-to
      statement-follows (stands-abort at) σ = follows-fault stay (at σ.store)

      pub items-follows : {i j at : ℕ} {is : Items} {signal : Signal} → StandsItems L lines address i is j → Moves i signal at → (σ : State) → Follows c at σ.store j (run (rounds c) (items (plain L) is signal) σ)
      items-follows stands-none m σ = follows-ok stay m
      items-follows (stands-then {j = j} {k = k} {s = s} {is = is} h rest) m σ = follows_then j k (λ u. run (rounds c) (items (plain L) is u)) (at-statement s (λ τ. statement-follows h τ) m σ) (λ u at τ moves. items-follows rest moves τ)
      items-follows (stands-label {i} {j} {l} {is} e rest) m σ = follows_then i j (λ u. run (rounds c) (items (plain L) is u)) (at_label l e m σ) (λ u at τ moves. items-follows rest moves τ)
