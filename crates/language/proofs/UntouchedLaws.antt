-- Laws of untouched words: an expression leaves every variable alone that it cannot write, under every limit, and where its run stops too. By
-- rules for computations, and then by induction on the expression.
use Rattle.std.specs.Prelude.{◌≡◌, Bool, ◌||◌, List, ℕ, ◌+◌, ◌<◌, ◌≤◌, eqb, ℤ, pos, length, get_or, Err, Ok, Result as Outcome}
use Rattle.words.specs.declared.FaultSort.{FaultSort}
use Rattle.std.proofs.Math.Path.{refl}
use Rattle.std.proofs.Common.{sym, ◌∙◌, true≢false, ⊎_elim, arith, eq-eqb, get_or-set_other}
use Rattle.std.proofs.Math.Bool.{true, false}
use Rattle.std.proofs.Math.Decide.{dec_lt}
use Rattle.std.proofs.Math.ListN.{get_or-eq_default}
use Rattle.words.specs.Word.{pick}
use Rattle.words.specs.Layout.{Layout, store_size, array_base, array_length}
use Rattle.words.specs.Laws.{neither, array-in-store}
use Rattle.arithmetic.proofs.Laws.{element-inside}
use Rattle.arithmetic.specs.Arithmetic.{is_true, apply, minus as minus_word, element as element_word}
use Rattle.words.specs.declared.Operator.{Operator}
use Rattle.computation.specs.Computation.{Computation, ret, ◌>>=◌, step, load, save, settle}
use Rattle.computation.specs.Run.{State, stepped, spent, Result, ok, stopped, has_room, and_then, run}
use Rattle.language.specs.Trees.{Expression, constant, read, minus, not, binary, and, or, comma, conditional, assign, compound, prefix, postfix, call, Place, variable, element, Arguments, no_more, ◌also◌}
use Rattle.language.specs.Meaning.{enter, update, Context, evaluate, locate, given}
use Rattle.language.specs.WellFormed.{SourceName}
use Rattle.language.specs.Writes.{is_variable, writes, index_writes, arguments_write}
use Rattle.language.specs.Untouched.{Any, Leaves, NoElement, Untouched, untouched_ok, untouched_stopped}

-- ---- computations

module _ {i : ℕ} where
  pub leaves_ret : {A : Type 0} {Q : A → Type 0} {a : A} → Q a → Leaves i Q (ret a)
  unfolding run
  leaves_ret q = record { leaves = λ l σ. untouched_ok refl q }

  pub untouched-then : {A B : Type 0} {Q : A → Type 0} {P : B → Type 0} {w : ℤ} {r : Result A} (k : A → State → Result B) → Untouched i Q w r
      → ((a : A) (τ : State) → Q a → Untouched i P (get_or τ.store i (pos 0)) (k a τ)) → Untouched i P w (and_then r k)
  untouched-then k (untouched_ok {a = a} {σ = τ} e q) f = rw e at (f a τ q)
  untouched-then k (untouched_stopped e) f = untouched_stopped e

  pub leaves-then : {A B : Type 0} {Q : A → Type 0} {P : B → Type 0} {m : Computation A} {k : A → Computation B} → Leaves i Q m → ((a : A) → Q a → Leaves i P (k a)) → Leaves i P (m >>= k)
  unfolding run
  leaves-then {m = m} {k = k} p q = record { leaves = λ l σ. untouched-then (λ a. run l (k a)) (p.leaves l σ) (λ a τ h. (q a h).leaves l τ) }

  pub leaves-step : Leaves i Any step
  unfolding run
  leaves-step = record { leaves = λ l σ. by (has_room l σ) σ }
    where
      by : (room : Bool) (σ : State) → Untouched {A = Unit {0}} i Any (get_or σ.store i (pos 0)) (pick room (ok tt (stepped σ)) (stopped spent σ))
      by true σ = untouched_ok refl tt
      by false σ = untouched_stopped refl

  pub leaves-enter : {A : Type 0} {Q : A → Type 0} {m : Computation A} → Leaves i Q m → Leaves i Q (enter m)
  leaves-enter p = leaves-then leaves-step (λ _ _. p)

  pub leaves-load : {j : ℕ} → Leaves i Any (load j)
  unfolding run
  leaves-load = record { leaves = λ l σ. untouched_ok refl tt }

  pub leaves-save : {j : ℕ} {v : ℤ} → (i ≡ j → ⊥) → Leaves i Any (save j v)
  unfolding run
  leaves-save {j} {v} h = record { leaves = λ l σ. untouched_ok (get_or-set_other σ.store j i v (pos 0) h) tt }

  pub leaves-settle : {A : Type 0} {Q : A → Type 0} (o : Outcome A FaultSort) → ((a : A) → o ≡ Ok a → Q a) → Leaves i Q (settle o)
  unfolding run
  leaves-settle (Ok a) q = leaves_ret (q a refl)
  leaves-settle (Err sort) q = record { leaves = λ l σ. untouched_stopped refl }

  pub leaves-pick : {A : Type 0} {Q : A → Type 0} {m n : Computation A} (b : Bool) → Leaves i Q m → Leaves i Q n → Leaves i Q (pick b m n)
  leaves-pick true p q = p
  leaves-pick false p q = q

  pub leaves-update : {j : ℕ} (operator : Operator) (right : ℤ) (result : ℤ → ℤ → ℤ) → (i ≡ j → ⊥) → Leaves i Any (update operator j right result)
  leaves-update operator right result h =
      leaves-then leaves-load (λ old _. leaves-then {Q = Any} (leaves-settle (apply operator old right) (λ _ _. tt)) (λ new _. leaves-then (leaves-save h) (λ _ _. leaves_ret tt)))

-- ---- expressions

other-variable : (j i : ℕ) → eqb j i ≡ false → i ≡ j → ⊥
other-variable j i e f = true≢false (sym (eq-eqb j i (sym f)) ∙ e)

-- "Variables, then the arrays in order": every element lies in the first S words, behind the variables.
element-in-store : (L : Layout) (array position : ℕ) → array_base L array ≤ position → position < array_base L array + array_length L array → position < store_size L
unfolding array_length
element-in-store L array position least most = go (dec_lt array (length L.lengths))
  where
    go : Dec (array < length L.lengths) → position < store_size L
    go (yes n) = omega (arith, array-in-store L array n)
    go (no n) = absurd (omega (arith, get_or-eq_default L.lengths 0 {n = array} (omega (arith, n))))

-- So none is a word that a source program names.
pub name-apart : (L : Layout) (first i : ℕ) → SourceName L first i → NoElement L i
unfolding array_base
name-apart L first i name array index position h f =
    let within = element-inside (array_base L array) (array_length L array) index position h in
    let below = element-in-store L array position within.least within.most in
    ⊎_elim (λ variable. omega (arith, within.least)) (λ declared. omega arith) name.apart

-- Calls leave the variable alone where their functions cannot write it.
module _ (C : Context) (called : ℕ → ℕ → Bool) (i : ℕ) (apart : NoElement C.layout i) (calls : (f : ℕ) (values : List ℤ) → called f i ≡ false → Leaves i Any (C.calling f values)) where
  mutual
    unfolding evaluate writes

    pub expression-leaves : (e : Expression) → writes called e i ≡ false → Leaves i Any (evaluate C e)
    expression-leaves (constant v) n = leaves_ret tt
    expression-leaves (read p) n = leaves-then (index-leaves p n) (λ _ _. leaves-load)
    expression-leaves (minus e) n = leaves-then (leaves-enter (expression-leaves e n)) (λ v _. leaves-settle (minus_word v) (λ _ _. tt))
    expression-leaves (not e) n = leaves-then (leaves-enter (expression-leaves e n)) (λ v _. leaves_ret tt)
    expression-leaves (binary operator a b) n =
        let none = neither (writes called a i) (writes called b i) n in
        leaves-then (leaves-enter (expression-leaves b none.1))
        (λ right _. leaves-then (leaves-enter (expression-leaves a none.0)) (λ left _. leaves-settle (apply operator left right) (λ _ _. tt)))
    expression-leaves (and a b) n =
        let none = neither (writes called a i) (writes called b i) n in
        leaves-then (leaves-enter (expression-leaves a none.0))
        (λ left _. leaves-pick (is_true left) (leaves-then (leaves-enter (expression-leaves b none.1)) (λ _ _. leaves_ret tt)) (leaves_ret tt))
    expression-leaves (or a b) n =
        let none = neither (writes called a i) (writes called b i) n in
        leaves-then (leaves-enter (expression-leaves a none.0))
        (λ left _. leaves-pick (is_true left) (leaves_ret tt) (leaves-then (leaves-enter (expression-leaves b none.1)) (λ _ _. leaves_ret tt)))
    expression-leaves (comma a b) n =
        let none = neither (writes called a i) (writes called b i) n in
        leaves-then (leaves-enter (expression-leaves a none.0)) (λ _ _. leaves-enter (expression-leaves b none.1))
    expression-leaves (conditional c a b) n =
        let none = neither (writes called c i) (writes called a i || writes called b i) n in
        let branches = neither (writes called a i) (writes called b i) none.1 in
        leaves-then (leaves-enter (expression-leaves c none.0))
        (λ test _. leaves-pick (is_true test) (leaves-enter (expression-leaves a branches.0)) (leaves-enter (expression-leaves b branches.1)))
    expression-leaves (assign p e) n =
        let none = neither (is_variable p i) (index_writes called p i || writes called e i) n in
        let parts = neither (index_writes called p i) (writes called e i) none.1 in
        leaves-then (leaves-enter (expression-leaves e parts.1))
        (λ v _. leaves-then (leaves-enter (place-leaves p none.0 parts.0)) (λ position other. leaves-then (leaves-save other) (λ _ _. leaves_ret tt)))
    expression-leaves (compound operator p e) n =
        let none = neither (is_variable p i) (index_writes called p i || writes called e i) n in
        let parts = neither (index_writes called p i) (writes called e i) none.1 in
        leaves-then (leaves-enter (expression-leaves e parts.1))
        (λ right _. leaves-then (leaves-enter (place-leaves p none.0 parts.0)) (λ position other. leaves-update operator right _ other))
    expression-leaves (prefix operator p) n =
        let none = neither (is_variable p i) (index_writes called p i) n in
        leaves-then (leaves-enter (place-leaves p none.0 none.1)) (λ position other. leaves-update operator (pos 1) _ other)
    expression-leaves (postfix operator p) n =
        let none = neither (is_variable p i) (index_writes called p i) n in
        leaves-then (leaves-enter (place-leaves p none.0 none.1)) (λ position other. leaves-update operator (pos 1) _ other)
    expression-leaves (call f arguments) n =
        let none = neither (called f i) (arguments_write called arguments i) n in
        leaves-then (arguments-leave arguments none.1) (λ values _. calls f values none.0)

    arguments-leave : (arguments : Arguments) → arguments_write called arguments i ≡ false → Leaves i Any (given C arguments)
    arguments-leave no_more n = leaves_ret tt
    arguments-leave (e also arguments) n =
        let none = neither (writes called e i) (arguments_write called arguments i) n in
        leaves-then (arguments-leave arguments none.1) (λ _ _. leaves-then (leaves-enter (leaves-enter (expression-leaves e none.0))) (λ _ _. leaves_ret tt))

    -- The position of a place that is read.
    index-leaves : (p : Place) → index_writes called p i ≡ false → Leaves i Any (locate C p)
    index-leaves (variable j) n = leaves_ret tt
    index-leaves (element array e) n = leaves-then (leaves-enter (expression-leaves e n)) (λ index _. leaves-settle (element_word (array_base C.layout array) (array_length C.layout array) index) (λ _ _. tt))

    -- The position of a place that is not the variable i is another one.
    place-leaves : (p : Place) → is_variable p i ≡ false → index_writes called p i ≡ false → Leaves i (λ position. i ≡ position → ⊥) (locate C p)
    place-leaves (variable j) o n = leaves_ret (other-variable j i o)
    place-leaves (element array e) o n = leaves-then (leaves-enter (expression-leaves e n)) (λ index _. leaves-settle (element_word (array_base C.layout array) (array_length C.layout array) index) (λ position h. apart array index position h))
