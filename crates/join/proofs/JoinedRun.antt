-- The run of a join, at every budget: one step for the new block, the first, and then the second on the steps left. The run passes over definitions.
use Rattle.std.specs.Prelude.{◌≡◌, List, ℕ, suc, ◌+◌, ◌-◌, ◌≤◌, ℤ}
use Rattle.std.proofs.Math.Path.{refl, ap}
use Rattle.std.proofs.Common.{sym, ◌∙◌, arith}
use Rattle.computation.specs.Run.{start, spent, fault, Result, ok, stopped, steps, run, final}
use Rattle.computation.proofs.RunLaws.{count-never-passes}
use Rattle.computation.specs.Remaining.{Rest, gives, halts, onward, spend}
use Rattle.computation.proofs.RemainingLaws.{told, spend-is-run}
use Rattle.words.specs.declared.Ending.TheVariants.{Plain, Spent, Fault}
use Rattle.language.specs.Trees.{Statement, block, Items, none, ◌then◌, ◌here◌, define}
use Rattle.language.specs.Meaning.{enter, Context, Signal, next, perform, items, exec}
use Rattle.language.specs.Program.{Finished, finished}
use Rattle.accepted.specs.Gives.{Gives}
use Rattle.join.specs.Followed.{raised, followed}
use Rattle.join.specs.JoinedTrees.{front_then, behind_front, joined_items}

-- ---- definitions are passed over

module _ (C : Context) where
  front-passed : (is others : Items) (signal : Signal) → items C (front_then is others) signal ≡ items C others signal
  unfolding items front_then
  front-passed none others signal = refl
  front-passed (s then is) others signal = refl
  front-passed (m here is) others signal = refl
  front-passed (define f words body is) others signal = front-passed is others signal

  behind-passed : (is : Items) (signal : Signal) → items C (behind_front is) signal ≡ items C is signal
  unfolding items behind_front
  behind-passed none signal = refl
  behind-passed (s then is) signal = refl
  behind-passed (m here is) signal = refl
  behind-passed (define f words body is) signal = behind-passed is signal

  block-passed : (is : Items) → exec C (block (behind_front is)) ≡ exec C (block is)
  unfolding perform
  block-passed is = ap enter (behind-passed is next)

-- Both programs as items of a new block.
abbrev joined_tree : Statement → Statement → Statement
joined_tree first second = block (first then second then none)

onward-same : {A B : Type 0} (r : Rest A) (f g : A → ℕ → List ℤ → Rest B) → ((a : A) (n : ℕ) (t : List ℤ) → r ≡ gives a n t → f a n t ≡ g a n t) → onward r f ≡ onward r g
onward-same (gives a n t) f g h = h a n t refl
onward-same (halts why n t) f g h = refl

onward-gives : {A : Type 0} (r : Rest A) → onward r (λ a n t. gives a n t) ≡ r
onward-gives (gives a n t) = refl
onward-gives (halts why n t) = refl

-- A run told by the steps left of b, as a finished run.
abbrev rest_finished : {A : Type 0} → ℕ → Rest A → Finished
rest_finished b (gives a n s) = record { ending = Plain; count = b - n; store = s }
rest_finished b (halts spent n s) = record { ending = Spent; count = b - n; store = s }
rest_finished b (halts (fault sort) n s) = record { ending = Fault sort; count = b - n; store = s }

-- A run on the steps left after so many.
told-after : {A : Type 0} (b before left : ℕ) (r : Result A) → (final r).count ≤ left → before + left ≡ b → rest_finished b (told left r) ≡ raised before (finished r)
told-after b before left (ok a σ) h e = let q : b - (left - σ.count) ≡ before + σ.count = omega arith in ap (λ (n : ℕ). record { ending = Plain; count = n; store = σ.store }) q
told-after b before left (stopped spent σ) h e = let q : b - (left - σ.count) ≡ before + σ.count = omega arith in ap (λ (n : ℕ). record { ending = Spent; count = n; store = σ.store }) q
told-after b before left (stopped (fault sort) σ) h e = let q : b - (left - σ.count) ≡ before + σ.count = omega arith in ap (λ (n : ℕ). record { ending = Fault sort; count = n; store = σ.store }) q

module _ (C : Context) (first second : Statement) where
  abbrev run_of : Statement → ℕ → List ℤ → Result Signal
  run_of program b store = run (steps b) (exec C program) (start store)

  -- by the steps left
  joined-spend : (b : ℕ) (s : List ℤ) → ((signal : Signal) (n : ℕ) (t : List ℤ) → spend (exec C first) b s ≡ gives signal n t → signal ≡ next)
      → spend (exec C (joined_tree first second)) (suc b) s ≡ onward (spend (exec C first) b s) (λ _ n t. spend (exec C second) n t)
  unfolding spend perform items
  joined-spend b s plain = onward-same (spend (exec C first) b s) _ _ (λ signal n t e. rw (plain signal n t e) (onward-gives (spend (exec C second) n t)))

  -- A legal first leaves no break, continue or search under way: `Gives` of it comes with acceptance.
  module _ (b : ℕ) (s : List ℤ) (plain : Gives (λ signal. signal ≡ next) (run_of first b s)) where
    ends_next : (r : Result Signal) → Gives (λ signal. signal ≡ next) r → (signal : Signal) (n : ℕ) (t : List ℤ) → told b r ≡ gives signal n t → signal ≡ next
    ends_next (ok a σ) g signal n t e = (let same : a ≡ signal = cc in sym same ∙ g)
    ends_next (stopped why σ) g signal n t e = absurd (let z : ◌≡◌ {A = ℕ} 0 1 = cc in omega arith)

    after : (r : Result Signal) → (final r).count ≤ b
        → rest_finished (suc b) (onward (told b r) (λ _ n t. spend (exec C second) n t)) ≡ followed (λ n t. finished (run_of second n t)) b (finished r)
    unfolding followed
    after (ok a σ) most =
        let few = count-never-passes (b - σ.count) (exec C second) (start σ.store) (omega arith) in
        ap (rest_finished (suc b)) (spend-is-run (b - σ.count) (exec C second) σ.store)
        ∙ told-after (suc b) (suc σ.count) (b - σ.count) (run_of second (b - σ.count) σ.store) few (omega arith)
    after (stopped spent σ) most = told-after {A = Signal} (suc b) 1 b (stopped spent σ) most (omega arith)
    after (stopped (fault sort) σ) most = told-after {A = Signal} (suc b) 1 b (stopped (fault sort) σ) most (omega arith)

    -- The join with budget b + 1, from the first with budget b.
    tree-run : finished (run_of (joined_tree first second) (suc b) s) ≡ followed (λ n t. finished (run_of second n t)) b (finished (run_of first b s))
    tree-run =
        let few = count-never-passes (suc b) (exec C (joined_tree first second)) (start s) (omega arith) in
        let most = count-never-passes b (exec C first) (start s) (omega arith) in
        sym (told-after (suc b) 0 (suc b) (run_of (joined_tree first second) (suc b) s) few (omega arith) ∙ unraised (run_of (joined_tree first second) (suc b) s))
        ∙ ap (rest_finished (suc b)) (sym (spend-is-run (suc b) (exec C (joined_tree first second)) s)
        ∙ joined-spend b s (rw (spend-is-run b (exec C first) s) (ends_next (run_of first b s) plain))
        ∙ ap (λ r. onward r (λ _ n t. spend (exec C second) n t)) (spend-is-run b (exec C first) s))
        ∙ after (run_of first b s) most
      where
        unraised : (r : Result Signal) → raised 0 (finished r) ≡ finished r
        unraised r = let q : 0 + (final r).count ≡ (final r).count = omega arith in ap (λ (n : ℕ). record { ending = (finished r).ending; count = n; store = (finished r).store }) q

-- ---- both programs by their items

module _ (C : Context) (first second : Items) where
  joined-passed : exec C (block (joined_items first second)) ≡ exec C (joined_tree (block (behind_front first)) (block (behind_front second)))
  unfolding perform joined_items
  joined-passed = ap enter (front-passed C first _ next ∙ front-passed C second _ next)

  pub items-run : (b : ℕ) (store : List ℤ) → Gives (λ signal. signal ≡ next) (run (steps b) (exec C (block first)) (start store))
      → finished (run (steps (suc b)) (exec C (block (joined_items first second))) (start store))
      ≡ followed (λ n t. finished (run (steps n) (exec C (block second)) (start t))) b (finished (run (steps b) (exec C (block first)) (start store)))
  items-run b store plain =
      ap (λ m. finished (run (steps (suc b)) m (start store))) joined-passed
      ∙ tree-run C (block (behind_front first)) (block (behind_front second)) b store (rw (block-passed C first) plain)
      ∙ ap (λ m. followed (λ n t. finished (run (steps n) m (start t))) b (finished (run (steps b) (exec C (block (behind_front first))) (start store)))) (block-passed C second)
      ∙ ap (λ m. followed (λ n t. finished (run (steps n) (exec C (block second)) (start t))) b (finished (run (steps b) m (start store)))) (block-passed C first)
