-- Untouched words of statements and functions: each leaves every variable alone that it cannot write, under every limit, and where its run stops
-- too. By induction on the statement, then on the calls.
use Rattle.std.specs.Prelude.{◌≡◌, Bool, false, ◌||◌, List, [], ◌∷◌, eqb, ℤ, pos, get_or}
use Rattle.std.proofs.Math.Path.{refl}
use Rattle.std.proofs.Common.{sym, arith}
use Prim.Native.Nat.{ℕ, zero, suc, ◌≤◌}
use Rattle.std.proofs.lemmas.Bool.{eqb-false}
use Rattle.words.specs.Word.{pick}
use Rattle.words.specs.Layout.{Layout}
use Rattle.words.specs.Laws.{neither}
use Rattle.arithmetic.specs.Arithmetic.{is_true}
use Rattle.words.specs.declared.FaultSort.{FaultSort}
use Rattle.words.specs.declared.FaultSort.TheVariants.{Guard}
use Rattle.computation.specs.Computation.{Turn, again, leave, Computation, ret, ◌>>=◌, fail, loop}
use Rattle.computation.specs.Run.{State, Result, Limit, rounds_from, after_turn, iterate, run}
use Rattle.language.specs.Trees.{Part, absent, present, Statement, empty, express, block, if_then, if_else, while, do_while, for, switch, break, continue, goto, guarded_if, guarded_do, abort, declare, give_back, Arms, no_arm, arm, Items, none, ◌then◌, ◌here◌, define}
use Rattle.language.specs.Meaning.{Context, value_of, Signal, next, breaking, continuing, seeking, returning, enters_statement, enters_mark, target, Choice, none_true, ran, after_body, after_choice, rounds, perform, choose, choice_rounds, items}
use Rattle.language.specs.Functions.{function_of, function_count, storing, invoke, context_by, call_by}
use Rattle.language.specs.Writes.{writes}
use Rattle.language.specs.FunctionWrites.{part_writes, statement_writes, arms_write, items_write, is_among, function_writes, written_by, functions_write}
use Rattle.language.specs.Untouched.{Untouched, untouched_ok, untouched_stopped, Leaves, Any, NoElement}
use Rattle.language.proofs.UntouchedLaws.{leaves_ret, untouched-then, leaves-step, leaves-then, leaves-enter, leaves-save, leaves-pick, expression-leaves}

-- ---- loops

module _ {A : Type 0} {i : ℕ} where
  leaves-fail : (sort : FaultSort) → Leaves {A = A} i Any (fail sort)
  unfolding run
  leaves-fail sort = record { leaves = λ l σ. untouched_stopped refl }

  rounds-untouched : (l : Limit) (body : State → Result (Turn A)) → ((σ : State) → Untouched i Any (get_or σ.store i (pos 0)) (body σ)) → (n : ℕ) (σ : State)
      → Untouched i Any (get_or σ.store i (pos 0)) (iterate l n body σ)
  unfolding run
  rounds-untouched l body h zero σ = untouched_stopped refl
  rounds-untouched l body h (suc n) σ = untouched-then _ (leaves-step.leaves l σ) (λ _ τ _. untouched-then _ (h τ) (λ t ν _. turned t ν (rounds-untouched l body h n)))
    where
      turned : (t : Turn A) (ν : State) → ((σ : State) → Untouched i Any (get_or σ.store i (pos 0)) (iterate l n body σ)) → Untouched i Any (get_or ν.store i (pos 0)) (after_turn (iterate l n body) t ν)
      turned again ν h = h ν
      turned (leave a) ν h = untouched_ok refl tt

  leaves_loop : {m : Computation (Turn A)} → Leaves i Any m → Leaves i Any (loop m)
  unfolding run
  leaves_loop {m} p = record { leaves = λ l σ. rounds-untouched l (run l m) (λ τ. p.leaves l τ) (rounds_from l σ) σ }

-- ---- statements

module _ (C : Context) (called : ℕ → ℕ → Bool) (i : ℕ) (apart : NoElement C.layout i) (calls : (f : ℕ) (values : List ℤ) → called f i ≡ false → Leaves i Any (C.calling f values)) where
  part-leaves : (p : Part) → part_writes called p i ≡ false → Leaves i Any (value_of C p)
  part-leaves absent n = leaves_ret tt
  part-leaves (present e) n = leaves-enter (expression-leaves C called i apart calls e n)

  body-leaves : {rest : Computation (Turn Signal)} (signal : Signal) → Leaves i Any rest → Leaves i Any (after_body rest signal)
  body-leaves next p = p
  body-leaves breaking p = leaves_ret tt
  body-leaves continuing p = p
  body-leaves (seeking m) p = leaves_ret tt
  body-leaves (returning v) p = leaves_ret tt

  choice-leaves : (choice : Choice) → Leaves i Any (after_choice choice)
  choice-leaves none_true = leaves-fail Guard
  choice-leaves (ran signal) = leaves_ret tt

  rounds-leave : (test action : Part) {m : Computation Signal} → part_writes called test i ≡ false → part_writes called action i ≡ false → Leaves i Any m → Leaves i Any (rounds C test action m)
  rounds-leave absent action t a p = leaves_loop (leaves-then p (λ signal _. body-leaves signal (leaves-then (part-leaves action a) (λ _ _. leaves_ret tt))))
  rounds-leave (present test) action t a p =
      leaves_loop (leaves-then (expression-leaves C called i apart calls test t) (λ v _. leaves-pick (is_true v)
      (leaves-then (leaves-enter p) (λ signal _. body-leaves signal (leaves-then (part-leaves action a) (λ _ _. leaves_ret tt)))) (leaves_ret tt)))

  mutual
    unfolding perform choose choice_rounds items statement_writes

    pub statement-leaves : (s : Statement) → statement_writes called s i ≡ false → Leaves i Any (perform C s)
    statement-leaves empty n = leaves_ret tt
    statement-leaves (express e) n = leaves-then (part-leaves (present e) n) (λ _ _. leaves_ret tt)
    statement-leaves (block is) n = items-leave is next n
    statement-leaves (if_then e on_true) n =
        let none = neither (writes called e i) (statement_writes called on_true i) n in
        leaves-then (part-leaves (present e) none.0) (λ v _. leaves-pick (is_true v) (leaves-enter (statement-leaves on_true none.1)) (leaves_ret tt))
    statement-leaves (if_else e on_true on_false) n =
        let none = neither (writes called e i) (statement_writes called on_true i || statement_writes called on_false i) n in
        let branches = neither (statement_writes called on_true i) (statement_writes called on_false i) none.1 in
        leaves-then (part-leaves (present e) none.0) (λ v _. leaves-pick (is_true v) (leaves-enter (statement-leaves on_true branches.0)) (leaves-enter (statement-leaves on_false branches.1)))
    statement-leaves (while e body) n =
        let none = neither (writes called e i) (statement_writes called body i) n in
        rounds-leave (present e) absent none.0 refl (statement-leaves body none.1)
    statement-leaves (do_while body e) n =
        let none = neither (statement_writes called body i) (writes called e i) n in
        leaves_loop (leaves-then (statement-leaves body none.0) (λ signal _. body-leaves signal (leaves-then (part-leaves (present e) none.1) (λ v _. leaves-pick (is_true v) (leaves_ret tt) (leaves_ret tt)))))
    statement-leaves (for first test action body) n =
        let a = neither (part_writes called first i) (part_writes called test i || (part_writes called action i || statement_writes called body i)) n in
        let b = neither (part_writes called test i) (part_writes called action i || statement_writes called body i) a.1 in
        let c = neither (part_writes called action i) (statement_writes called body i) b.1 in
        leaves-then (part-leaves first a.0) (λ _ _. rounds-leave test action b.0 c.0 (statement-leaves body c.1))
    statement-leaves (switch e is) n =
        let none = neither (writes called e i) (items_write called is i) n in
        leaves-then (part-leaves (present e) none.0) (λ v _. leaves-then (items-leave is (target v is) none.1) (λ _ _. leaves_ret tt))
    statement-leaves break n = leaves_ret tt
    statement-leaves continue n = leaves_ret tt
    statement-leaves (goto l) n = leaves_ret tt
    statement-leaves (guarded_if arms) n = leaves-then (arms-leave arms n) (λ choice _. choice-leaves choice)
    statement-leaves (guarded_do arms) n = rounds-of-arms-leave arms n
    statement-leaves abort n = leaves-fail Guard
    statement-leaves (declare word e) n =
        let none = neither (eqb word i) (writes called e i) n in
        leaves-then (part-leaves (present e) none.1) (λ _ _. leaves-then (leaves-save (λ q. eqb-false word i none.0 (sym q))) (λ _ _. leaves_ret tt))
    statement-leaves (give_back part) n = leaves-then (part-leaves part n) (λ _ _. leaves_ret tt)

    arms-leave : (arms : Arms) → arms_write called arms i ≡ false → Leaves i Any (choose C arms)
    arms-leave no_arm n = leaves_ret tt
    arms-leave (arm guard body arms) n =
        let none = neither (writes called guard i) (statement_writes called body i || arms_write called arms i) n in
        let parts = neither (statement_writes called body i) (arms_write called arms i) none.1 in
        leaves-enter (leaves-then (part-leaves (present guard) none.0) (λ v _. leaves-pick (is_true v) (leaves-then (leaves-enter (statement-leaves body parts.0)) (λ _ _. leaves_ret tt)) (arms-leave arms parts.1)))

    rounds-of-arms-leave : (arms : Arms) → arms_write called arms i ≡ false → Leaves i Any (choice_rounds C arms)
    rounds-of-arms-leave no_arm n = leaves_ret tt
    rounds-of-arms-leave (arm guard body arms) n =
        let none = neither (writes called guard i) (statement_writes called body i || arms_write called arms i) n in
        let parts = neither (statement_writes called body i) (arms_write called arms i) none.1 in
        leaves_loop (leaves-then (leaves-then (part-leaves (present guard) none.0) (λ v _. leaves-pick (is_true v) (leaves-then (leaves-enter (statement-leaves body parts.0)) (λ _ _. leaves_ret tt)) (arms-leave arms parts.1))) (λ _ _. leaves_ret tt))

    items-leave : (is : Items) (signal : Signal) → items_write called is i ≡ false → Leaves i Any (items C is signal)
    items-leave none signal n = leaves_ret tt
    items-leave (s then is) signal n =
        let parts = neither (statement_writes called s i) (items_write called is i) n in
        leaves-then (leaves-pick (enters_statement signal) (leaves-enter (statement-leaves s parts.0)) (leaves_ret tt)) (λ after _. items-leave is after parts.1)
    items-leave (m here is) signal n = leaves-then {Q = Any} (leaves-pick (enters_mark signal m) (leaves-enter (leaves_ret tt)) (leaves_ret tt)) (λ after _. items-leave is after n)
    items-leave (define f words body is) signal n = items-leave is signal n

-- ---- functions

parameters-leave : {i : ℕ} (words : List ℕ) (values : List ℤ) → is_among i words ≡ false → Leaves i Any (storing words values)
unfolding storing is_among
parameters-leave [] values n = leaves_ret tt
parameters-leave {i} (word ∷ words) [] n =
    let none = neither (eqb word i) (is_among i words) n in
    leaves-then (leaves-save (λ q. eqb-false word i none.0 (sym q))) (λ _ _. parameters-leave words [] none.1)
parameters-leave {i} (word ∷ words) (v ∷ values) n =
    let none = neither (eqb word i) (is_among i words) n in
    leaves-then (leaves-save (λ q. eqb-false word i none.0 (sym q))) (λ _ _. parameters-leave words values none.1)

module _ (L : Layout) (program : Items) (i : ℕ) (apart : NoElement L i) where
  -- With fewer calls within calls a function leaves alone what it cannot write with more.
  calls-leave : (calls most f : ℕ) (values : List ℤ) → calls ≤ most → written_by most program f i ≡ false → Leaves i Any (call_by calls L program f values)
  unfolding call_by invoke perform written_by function_writes
  calls-leave zero most f values h n = leaves_ret tt
  calls-leave (suc calls) zero f values h n = absurd (omega arith)
  calls-leave (suc calls) (suc most) f values h n =
      let parts = neither (is_among i (function_of f program).parameters) (items_write (written_by most program) (function_of f program).body i) n in
      leaves-then (parameters-leave (function_of f program).parameters values parts.0) (λ _ _.
      leaves-then (leaves-enter (items-leave (context_by L (call_by calls L program)) (written_by most program) i apart (λ g values m. calls-leave calls most g values (omega arith) m) (function_of f program).body next parts.1)) (λ _ _. leaves_ret tt))

  -- "A call can write what its function can", and no more, with as many calls within calls as there are functions, or fewer.
  pub function-leaves : (calls f : ℕ) (values : List ℤ) → calls ≤ function_count program → functions_write program f i ≡ false → Leaves i Any (call_by calls L program f values)
  unfolding functions_write
  function-leaves calls f values few n = calls-leave calls (function_count program) f values few n
