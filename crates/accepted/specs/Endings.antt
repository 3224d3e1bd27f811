-- Endings: in a source tree every break, continue and search for a mark finds its end inside the tree: a loop or switch takes a break, a
-- loop a continue, a switch's own list has the mark that it seeks. By recursion on the tree.
use Rattle.std.specs.Prelude.{◌≡◌, Bool, ◌||◌, ℤ}
use Rattle.std.proofs.Math.Path.{refl}
use Rattle.std.proofs.Math.Bool.{true, false}
use Rattle.std.proofs.lemmas.Bool.{false≢true}
use Rattle.words.specs.Word.{pick}
use Rattle.arithmetic.specs.Arithmetic.{is_true}
use Rattle.computation.specs.Computation.{Turn, again, leave, Computation, ret, ◌>>=◌, ◌>>◌, save}
use Rattle.computation.specs.Run.{State, ok, Limit, rounds_from, run}
use Rattle.language.specs.Trees.{Part, absent, present, Mark, case, default, same_mark, has, Statement, empty, express, block, if_then, if_else, while, do_while, for, switch, break, continue, goto, guarded_if, guarded_do, abort, declare, Arms, no_arm, arm, Items, none, ◌then◌, ◌here◌, give_back, define}
use Rattle.language.specs.Meaning.{Context, returning, Signal, next, breaking, continuing, seeking, enters_statement, enters_mark, target, after_switch, after_body, Choice, none_true, ran, after_choice, after_arms, try_arm, after_test, enter, if_true, value, value_of, evaluate, rounds, perform, choose, choice_rounds, items, exec}
use Rattle.language.specs.WellFormed.{Placed, PlacedArms, PlacedItems, PlacedProgram}
use Rattle.accepted.specs.Gives.{Gives, Any, any, gives-weaker, gives_then, Leaves, gives-iterate, entered, chosen}

-- How a statement may end: the next item follows, or a break or a continue where one may stand.
pub data Allowed (mayBreak mayContinue : Bool) : Signal → Type 0 where
  goes_on : Allowed mayBreak mayContinue next
  breaks : mayBreak ≡ true → Allowed mayBreak mayContinue breaking
  continues : mayContinue ≡ true → Allowed mayBreak mayContinue continuing

-- How a run may come to the rest of a list: as a statement may end, or on its way to a mark that the rest has.
pub data Arrives (rest : Items) (mayBreak mayContinue : Bool) : Signal → Type 0 where
  ended : {signal : Signal} → Allowed mayBreak mayContinue signal → Arrives rest mayBreak mayContinue signal
  sought : {mark : Mark} → has mark rest ≡ true → Arrives rest mayBreak mayContinue (seeking mark)

-- A switch seeks a mark that its list has, or goes past.
target-arrives : (v : ℤ) (is : Items) (mayContinue : Bool) → Arrives is true mayContinue (target v is)
target-arrives v is c = go (has (case v) is) (has default is) refl refl
  where
    go : (a b : Bool) → has (case v) is ≡ a → has default is ≡ b → Arrives is true c (pick a (seeking (case v)) (pick b (seeking default) breaking))
    go true b e f = sought e
    go false true e f = sought f
    go false false e f = ended (breaks refl)

-- A switch takes a break.
after-switch : {mayBreak mayContinue : Bool} {signal : Signal} → Allowed true mayContinue signal → Allowed mayBreak mayContinue (after_switch signal)
after-switch goes_on = goes_on
after-switch (breaks e) = goes_on
after-switch (continues e) = continues e

-- What arms may come to: no guard was true, or a block ended as it may.
abbrev Choosable : Bool → Bool → Choice → Type 0
Choosable mayBreak mayContinue none_true = Unit {0}
Choosable mayBreak mayContinue (ran signal) = Allowed mayBreak mayContinue signal

-- A guarded do takes no break and no continue: it is left with either.
after-arms : (mayBreak mayContinue : Bool) (choice : Choice) → Choosable mayBreak mayContinue choice → Leaves (Allowed mayBreak mayContinue) (after_arms choice)
after-arms b c none_true allowed = goes_on
after-arms b c (ran next) allowed = tt
after-arms b c (ran breaking) allowed = allowed
after-arms b c (ran continuing) allowed = allowed
after-arms b c (ran (seeking mark)) allowed = allowed
after-arms b c (ran (returning v)) allowed = allowed

module _ (C : Context) (limit : Limit) where
  -- ---- loops

  module _ (mayBreak mayContinue : Bool) where
    abbrev Left : Turn Signal → Type 0
    Left = Leaves (Allowed mayBreak mayContinue)

    -- a loop takes a break and a continue of its body
    after-body : (rest : Computation (Turn Signal)) → ((σ : State) → Gives Left (run limit rest σ)) → {signal : Signal} → Allowed true true signal
        → (σ : State) → Gives Left (run limit (after_body rest signal) σ)
    unfolding run
    after-body rest h goes_on σ = h σ
    after-body rest h (breaks e) σ = goes_on
    after-body rest h (continues e) σ = h σ

    -- a body that ends as a loop's body may, and then the rest of the round
    body-then : (body : Computation Signal) (rest : Computation (Turn Signal)) → ((σ : State) → Gives (Allowed true true) (run limit body σ)) → ((σ : State) → Gives Left (run limit rest σ))
        → (σ : State) → Gives Left (run limit (body >>= λ signal. after_body rest signal) σ)
    unfolding run
    body-then body rest f g σ = gives_then (Allowed true true) Left (run limit body σ) (λ signal. run limit (after_body rest signal)) (f σ) (λ signal τ allowed. after-body rest g allowed τ)

    -- a test, and then the rest of the round
    test-then : (test : Computation ℤ) (rest : Computation (Turn Signal)) → ((σ : State) → Gives Left (run limit rest σ)) → (σ : State) → Gives Left (run limit (test >>= λ v. after_test rest v) σ)
    unfolding run
    test-then test rest g σ =
        gives_then Any Left (run limit test σ) (λ v. run limit (after_test rest v)) (any (run limit test σ))
        (λ v τ _. chosen limit Left (is_true v) rest (ret (leave next)) g (λ ρ. goes_on) τ)

    action-then : (action : Part) (σ : State) → Gives Left (run limit (value_of C action >> ret again) σ)
    unfolding run
    action-then action σ = gives_then Any Left (run limit (value_of C action) σ) (λ _ τ. ok again τ) (any (run limit (value_of C action) σ)) (λ _ τ _. tt)

    rounds-end : (test action : Part) (body : Computation Signal) → ((σ : State) → Gives (Allowed true true) (run limit body σ))
        → (σ : State) → Gives (Allowed mayBreak mayContinue) (run limit (rounds C test action body) σ)
    unfolding run
    rounds-end (present test) action body h σ =
        gives-iterate (Allowed mayBreak mayContinue) limit (rounds_from limit σ) (run limit (evaluate C test >>= λ v. after_test turn v))
        (test-then (evaluate C test) turn (body-then (enter body) (value_of C action >> ret again) (entered limit (Allowed true true) body h) (action-then action))) σ
      where
        turn : Computation (Turn Signal)
        turn = enter body >>= λ signal. after_body (value_of C action >> ret again) signal
    rounds-end absent action body h σ =
        gives-iterate (Allowed mayBreak mayContinue) limit (rounds_from limit σ) (run limit (body >>= λ signal. after_body (value_of C action >> ret again) signal))
        (body-then body (value_of C action >> ret again) h (action-then action)) σ

  -- ---- arms

  after-choice : (mayBreak mayContinue : Bool) (choice : Choice) → Choosable mayBreak mayContinue choice → (σ : State) → Gives (Allowed mayBreak mayContinue) (run limit (after_choice choice) σ)
  unfolding run
  after-choice b c none_true allowed σ = tt
  after-choice b c (ran signal) allowed σ = allowed

  -- a guard, and then its block or the arms behind it
  tried : (mayBreak mayContinue : Bool) (guard : Computation ℤ) (body : Computation Signal) (rest : Computation Choice) → ((σ : State) → Gives (Allowed mayBreak mayContinue) (run limit body σ))
      → ((σ : State) → Gives (Choosable mayBreak mayContinue) (run limit rest σ)) → (σ : State) → Gives (Choosable mayBreak mayContinue) (run limit (try_arm guard (enter body) rest) σ)
  unfolding run
  tried b c guard body rest f g σ =
      gives_then Any (Choosable b c) (run limit guard σ) (λ v. run limit (if_true v (enter body >>= λ signal. ret (ran signal)) rest)) (any (run limit guard σ))
      (λ v τ _. chosen limit (Choosable b c) (is_true v) (enter body >>= λ signal. ret (ran signal)) rest
      (λ ν. gives_then (Allowed b c) (Choosable b c) (run limit (enter body) ν) (λ signal ρ. ok (ran signal) ρ) (entered limit (Allowed b c) body f ν) (λ signal ρ allowed. allowed)) g τ)

  -- ---- lists

  at-statement : {is : Items} {mayBreak mayContinue : Bool} (s : Statement) {signal : Signal} → ((σ : State) → Gives (Allowed mayBreak mayContinue) (run limit (perform C s) σ))
      → Arrives (s then is) mayBreak mayContinue signal → (σ : State) → Gives (Arrives is mayBreak mayContinue) (run limit (pick (enters_statement signal) (enter (perform C s)) (ret signal)) σ)
  unfolding run has
  at-statement {is} {mayBreak} {mayContinue} s h (ended goes_on) σ =
      let further = Arrives is mayBreak mayContinue in
      entered limit further (perform C s) (λ τ. gives-weaker (Allowed mayBreak mayContinue) further (run limit (perform C s) τ) (h τ) (λ _ allowed. ended allowed)) σ
  at-statement s h (ended (breaks e)) σ = ended (breaks e)
  at-statement s h (ended (continues e)) σ = ended (continues e)
  at-statement s h (sought e) σ = sought e

  at_mark : {is : Items} {mayBreak mayContinue : Bool} (mark : Mark) {signal : Signal} → Arrives (mark here is) mayBreak mayContinue signal
      → (σ : State) → Gives (Arrives is mayBreak mayContinue) (run limit (pick (enters_mark signal mark) (enter (ret next)) (ret signal)) σ)
  unfolding run has
  at_mark {is} {mayBreak} {mayContinue} mark (ended goes_on) σ = entered limit (Arrives is mayBreak mayContinue) (ret next) (λ τ. ended goes_on) σ
  at_mark mark (ended (breaks e)) σ = ended (breaks e)
  at_mark mark (ended (continues e)) σ = ended (continues e)
  at_mark {is} {mayBreak} {mayContinue} mark (sought {mark = other} e) σ = go (same_mark other mark) e
    where
      go : (same : Bool) → (same || has other is) ≡ true → Gives (Arrives is mayBreak mayContinue) (run limit (pick same (enter (ret next)) (ret (seeking other))) σ)
      go true e = entered limit (Arrives is mayBreak mayContinue) (ret next) (λ τ. ended goes_on) σ
      go false e = sought e

  -- ---- statements

  mutual
    unfolding run perform choose choice_rounds items Placed PlacedArms PlacedItems has

    statement-ends : (s : Statement) (mayBreak mayContinue : Bool) → Placed false mayBreak mayContinue s → (σ : State) → Gives (Allowed mayBreak mayContinue) (run limit (perform C s) σ)
    statement-ends empty b c p σ = goes_on
    statement-ends (express e) b c p σ = gives_then Any (Allowed b c) (run limit (value C e) σ) (λ _ τ. ok next τ) (any (run limit (value C e) σ)) (λ _ τ _. goes_on)
    statement-ends (block is) b c p σ = items-end is false b c p next (ended goes_on) σ
    statement-ends (if_then e on_true) b c p σ =
        gives_then Any (Allowed b c) (run limit (value C e) σ) (λ test. run limit (if_true test (enter (perform C on_true)) (ret next))) (any (run limit (value C e) σ))
        (λ test τ _. chosen limit (Allowed b c) (is_true test) (enter (perform C on_true)) (ret next)
        (entered limit (Allowed b c) (perform C on_true) (λ ν. statement-ends on_true b c p ν)) (λ ν. goes_on) τ)
    statement-ends (if_else e on_true on_false) b c p σ =
        gives_then Any (Allowed b c) (run limit (value C e) σ) (λ test. run limit (if_true test (enter (perform C on_true)) (enter (perform C on_false)))) (any (run limit (value C e) σ))
        (λ test τ _. chosen limit (Allowed b c) (is_true test) (enter (perform C on_true)) (enter (perform C on_false))
        (entered limit (Allowed b c) (perform C on_true) (λ ν. statement-ends on_true b c p.0 ν))
        (entered limit (Allowed b c) (perform C on_false) (λ ν. statement-ends on_false b c p.1 ν)) τ)
    statement-ends (while e body) b c p σ = rounds-end b c (present e) absent (perform C body) (λ τ. statement-ends body true true p τ) σ
    statement-ends (do_while body e) b c p σ =
        gives-iterate (Allowed b c) limit (rounds_from limit σ) (run limit (perform C body >>= λ signal. after_body (value C e >>= λ v. after_test (ret again) v) signal))
        (body-then b c (perform C body) (value C e >>= λ v. after_test (ret again) v) (λ τ. statement-ends body true true p τ) (test-then b c (value C e) (ret again) (λ τ. tt))) σ
    statement-ends (for first test action body) b c p σ =
        gives_then Any (Allowed b c) (run limit (value_of C first) σ) (λ _. run limit (rounds C test action (perform C body))) (any (run limit (value_of C first) σ))
        (λ _ τ _. rounds-end b c test action (perform C body) (λ ν. statement-ends body true true p ν) τ)
    statement-ends (switch e is) b c p σ =
        gives_then Any (Allowed b c) (run limit (value C e) σ) (λ v. run limit (items C is (target v is) >>= λ signal. ret (after_switch signal))) (any (run limit (value C e) σ))
        (λ v τ _. gives_then (Allowed true c) (Allowed b c) (run limit (items C is (target v is)) τ) (λ signal ν. ok (after_switch signal) ν)
        (items-end is true true c p (target v is) (target-arrives v is c) τ) (λ signal ν allowed. after-switch allowed))
    statement-ends break b c p σ = breaks p
    statement-ends continue b c p σ = continues p
    statement-ends (goto l) b c p σ = absurd p
    statement-ends (guarded_if arms) b c p σ =
        gives_then (Choosable b c) (Allowed b c) (run limit (choose C arms) σ) (λ choice. run limit (after_choice choice)) (arms_end arms b c p σ)
        (λ choice τ allowed. after-choice b c choice allowed τ)
    statement-ends (guarded_do arms) b c p σ = rounds-of-arms-end arms b c p σ
    statement-ends abort b c p σ = absurd p
    statement-ends (declare word e) b c p σ = gives_then Any (Allowed b c) (run limit (value C e) σ) (λ v. run limit (save word v >> ret next)) (any (run limit (value C e) σ)) (λ v τ _. goes_on)
    statement-ends (give_back value) b c p σ = absurd (false≢true p)

    arms_end : (arms : Arms) (mayBreak mayContinue : Bool) → PlacedArms false mayBreak mayContinue arms → (σ : State) → Gives (Choosable mayBreak mayContinue) (run limit (choose C arms) σ)
    arms_end no_arm b c p σ = tt
    arms_end (arm guard body arms) b c p σ =
        entered limit (Choosable b c) (try_arm (value C guard) (enter (perform C body)) (choose C arms))
        (tried b c (value C guard) (perform C body) (choose C arms) (λ τ. statement-ends body b c p.0 τ) (λ τ. arms_end arms b c p.1 τ)) σ

    rounds-of-arms-end : (arms : Arms) (mayBreak mayContinue : Bool) → PlacedArms false mayBreak mayContinue arms → (σ : State) → Gives (Allowed mayBreak mayContinue) (run limit (choice_rounds C arms) σ)
    rounds-of-arms-end no_arm b c p σ = goes_on
    rounds-of-arms-end (arm guard body arms) b c p σ =
        gives-iterate (Allowed b c) limit (rounds_from limit σ) (run limit (try_arm (value C guard) (enter (perform C body)) (choose C arms) >>= λ choice. ret (after_arms choice)))
        (λ τ. gives_then (Choosable b c) (Left b c) (run limit (try_arm (value C guard) (enter (perform C body)) (choose C arms)) τ) (λ choice ν. ok (after_arms choice) ν)
        (tried b c (value C guard) (perform C body) (choose C arms) (λ ν. statement-ends body b c p.0 ν) (λ ν. arms_end arms b c p.1 ν) τ) (λ choice ν allowed. after-arms b c choice allowed)) σ

    items-end : (is : Items) (inSwitch mayBreak mayContinue : Bool) → PlacedItems false inSwitch mayBreak mayContinue is → (signal : Signal) → Arrives is mayBreak mayContinue signal
        → (σ : State) → Gives (Allowed mayBreak mayContinue) (run limit (items C is signal) σ)
    items-end none i b c p signal (ended allowed) σ = allowed
    items-end none i b c p _ (sought e) σ = absurd (false≢true e)
    items-end (s then is) i b c p signal arrives σ =
        gives_then (Arrives is b c) (Allowed b c) (run limit (pick (enters_statement signal) (enter (perform C s)) (ret signal)) σ) (λ after. run limit (items C is after))
        (at-statement s (λ τ. statement-ends s b c p.0 τ) arrives σ) (λ after τ arrived. items-end is i b c p.1 after arrived τ)
    items-end (mark here is) i b c p signal arrives σ =
        gives_then (Arrives is b c) (Allowed b c) (run limit (pick (enters_mark signal mark) (enter (ret next)) (ret signal)) σ) (λ after. run limit (items C is after))
        (at_mark mark arrives σ) (λ after τ arrived. items-end is i b c p.1 after arrived τ)
    items-end (define f words body is) i b c p signal arrives σ = absurd p

  -- The items of a program; a run passes over its definitions.
  program-end : (program : Items) → PlacedProgram program → (σ : State) → Gives (Allowed false false) (run limit (items C program next) σ)
  unfolding perform PlacedProgram
  program-end none p σ = items-end none false false false p next (ended goes_on) σ
  program-end (s then is) p σ = items-end (s then is) false false false p next (ended goes_on) σ
  program-end (m here is) p σ = items-end (m here is) false false false p next (ended goes_on) σ
  program-end (define f words body is) p σ = program-end is p.1 σ

  -- Around a whole program stands no loop and no switch, so the run ends with nothing but the next item to follow.
  pub program-ends : (contents : Items) → PlacedProgram contents → (σ : State) → Gives (λ signal. signal ≡ next) (run limit (exec C (block contents)) σ)
  unfolding perform
  program-ends contents placed σ =
      entered limit (λ signal. signal ≡ next) (perform C (block contents))
      (λ τ. gives-weaker (Allowed false false) (λ signal. signal ≡ next) (run limit (items C contents next) τ) (program-end contents placed τ) nothing-else) σ
    where
      nothing-else : (signal : Signal) → Allowed false false signal → signal ≡ next
      nothing-else signal goes_on = refl
      nothing-else signal (breaks e) = absurd (false≢true e)
      nothing-else signal (continues e) = absurd (false≢true e)
