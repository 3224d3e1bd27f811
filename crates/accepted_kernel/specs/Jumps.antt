-- Jumps: in a kernel tree every jump of a run finds its label. A statement's run comes to the next item, or is on its way to a label
-- that stands ahead; a list takes it there, or hands it on to a list around.
use Rattle.std.specs.Prelude.{◌≡◌, Bool, ◌||◌, ℕ, eqb, ℤ, pos}
use Rattle.std.proofs.Math.Path.{refl}
use Rattle.std.proofs.Math.Bool.{true, false}
use Rattle.std.proofs.lemmas.Bool.{false≢true}
use Rattle.words.specs.Word.{pick}
use Rattle.arithmetic.specs.Arithmetic.{is_true}
use Rattle.computation.specs.Computation.{Turn, again, leave, Computation, ret, ◌>>=◌, ◌>>◌}
use Rattle.computation.specs.Run.{State, ok, Limit, rounds_from, run}
use Rattle.language.specs.Trees.{label, has, same_mark, Statement, block, Items, none, ◌then◌, ◌here◌, ◌⧺◌}
use Rattle.language.specs.Meaning.{Context, Signal, next, seeking, returning, enters_statement, enters_mark, enter, if_true, value, evaluate, after_body, after_test, perform, items, exec}
use Rattle.accepted.specs.Gives.{Gives, Any, any, gives-weaker, gives_then, Leaves, gives-iterate, entered, chosen}
use Rattle.translation.specs.KernelForm.{KernelStatement, kernel-empty, kernel-assign, kernel-block, kernel-if, kernel-while, kernel-goto, kernel-abort, kernel-return, KernelItems, kernel-none, kernel-then, kernel-label, KernelProgram, kernel_main, kernel_define}

-- ---- jumps

-- The next item follows, or a jump to a label that stands among the items ahead, or, inside a function, a return.
pub data Lands (mayReturn : Bool) (ahead : Items) : Signal → Type 0 where
  goes_on : Lands mayReturn ahead next
  jumps : {number : ℕ} → has (label number) ahead ≡ true → Lands mayReturn ahead (seeking (label number))
  returns : {v : ℤ} → mayReturn ≡ true → Lands mayReturn ahead (returning v)

module _ (C : Context) (limit : Limit) where
  -- after a while's body: the next round, or the loop is left by the jump
  after-body : {mayReturn : Bool} {ahead : Items} {signal : Signal} → Lands mayReturn ahead signal → (σ : State) → Gives (Leaves (Lands mayReturn ahead)) (run limit (after_body (ret (pos 0) >> ret again) signal) σ)
  unfolding run
  after-body goes_on σ = tt
  after-body (jumps h) σ = jumps h
  after-body (returns e) σ = returns e

  -- a list that is passed, or met at one of its labels
  at-statement : (mayReturn : Bool) (ahead is : Items) (s : Statement) {signal : Signal} → ((σ : State) → Gives (Lands mayReturn (is ⧺ ahead)) (run limit (perform C s) σ)) → Lands mayReturn ((s then is) ⧺ ahead) signal
      → (σ : State) → Gives (Lands mayReturn (is ⧺ ahead)) (run limit (pick (enters_statement signal) (enter (perform C s)) (ret signal)) σ)
  unfolding run has ◌⧺◌
  at-statement mayReturn ahead is s h goes_on σ = entered limit (Lands mayReturn (is ⧺ ahead)) (perform C s) h σ
  at-statement mayReturn ahead is s h (jumps e) σ = jumps e
  at-statement mayReturn ahead is s h (returns e) σ = returns e

  at_label : (mayReturn : Bool) (ahead is : Items) (mark : ℕ) {signal : Signal} → Lands mayReturn ((label mark here is) ⧺ ahead) signal
      → (σ : State) → Gives (Lands mayReturn (is ⧺ ahead)) (run limit (pick (enters_mark signal (label mark)) (enter (ret next)) (ret signal)) σ)
  unfolding run has ◌⧺◌ same_mark
  at_label mayReturn ahead is mark goes_on σ = entered limit (Lands mayReturn (is ⧺ ahead)) (ret next) (λ τ. goes_on) σ
  at_label mayReturn ahead is mark (returns e) σ = returns e
  at_label mayReturn ahead is mark (jumps {number} e) σ = go (eqb number mark) e σ
    where
      go : (b : Bool) → (b || has (label number) (is ⧺ ahead)) ≡ true → (σ : State) → Gives (Lands mayReturn (is ⧺ ahead)) (run limit (pick b (enter (ret next)) (ret (seeking (label number)))) σ)
      go true e σ = entered limit (Lands mayReturn (is ⧺ ahead)) (ret next) (λ τ. goes_on) σ
      go false e σ = jumps e

  mutual
    unfolding run perform items ◌⧺◌

    pub statement-lands : {mayReturn : Bool} {ahead : Items} {s : Statement} → KernelStatement mayReturn ahead s → (σ : State) → Gives (Lands mayReturn ahead) (run limit (perform C s) σ)
    statement-lands kernel-empty σ = goes_on
    statement-lands (kernel-assign {mayReturn} {ahead} {e} a) σ = gives_then Any (Lands mayReturn ahead) (run limit (value C e) σ) (λ _ τ. ok next τ) (any (run limit (value C e) σ)) (λ _ τ _. goes_on)
    statement-lands (kernel-block k) σ = items-lands k next goes_on σ
    statement-lands (kernel-if {mayReturn} {ahead} {on_true} {on_false} {e} a yes-form no-form) σ =
        gives_then Any (Lands mayReturn ahead) (run limit (value C e) σ) (λ test. run limit (if_true test (enter (perform C (block on_true))) (enter (perform C (block on_false))))) (any (run limit (value C e) σ))
        (λ test τ _. chosen limit (Lands mayReturn ahead) (is_true test) (enter (perform C (block on_true))) (enter (perform C (block on_false)))
        (entered limit (Lands mayReturn ahead) (perform C (block on_true)) (λ ν. items-lands yes-form next goes_on ν))
        (entered limit (Lands mayReturn ahead) (perform C (block on_false)) (λ ν. items-lands no-form next goes_on ν)) τ)
    statement-lands (kernel-while {mayReturn} {ahead} {body} {e} a form) σ =
        gives-iterate (Lands mayReturn ahead) limit (rounds_from limit σ) (run limit round)
        (λ τ. gives_then Any (Leaves (Lands mayReturn ahead)) (run limit (evaluate C e) τ) (λ v. run limit (after_test turn v)) (any (run limit (evaluate C e) τ))
        (λ v ν _. chosen limit (Leaves (Lands mayReturn ahead)) (is_true v) turn (ret (leave next))
        (λ ρ. gives_then (Lands mayReturn ahead) (Leaves (Lands mayReturn ahead)) (run limit (enter (perform C (block body))) ρ) (λ signal. run limit (after_body (ret (pos 0) >> ret again) signal))
        (entered limit (Lands mayReturn ahead) (perform C (block body)) (λ μ. items-lands form next goes_on μ) ρ) (λ signal μ lands. after-body lands μ))
        (λ ρ. goes_on) ν)) σ
      where
        turn : Computation (Turn Signal)
        turn = enter (perform C (block body)) >>= λ signal. after_body (ret (pos 0) >> ret again) signal

        round : Computation (Turn Signal)
        round = evaluate C e >>= λ v. after_test turn v
    statement-lands (kernel-goto n h) σ = jumps h
    statement-lands kernel-abort σ = tt
    statement-lands (kernel-return {ahead} {e} a) σ = gives_then Any (Lands true ahead) (run limit (value C e) σ) (λ v τ. ok (returning v) τ) (any (run limit (value C e) σ)) (λ v τ _. returns refl)

    pub items-lands : {mayReturn : Bool} {ahead is : Items} → KernelItems mayReturn ahead is → (signal : Signal) → Lands mayReturn (is ⧺ ahead) signal → (σ : State) → Gives (Lands mayReturn ahead) (run limit (items C is signal) σ)
    items-lands kernel-none signal lands σ = lands
    items-lands (kernel-then {mayReturn} {ahead} {is} {s} h k) signal lands σ =
        gives_then (Lands mayReturn (is ⧺ ahead)) (Lands mayReturn ahead) (run limit (pick (enters_statement signal) (enter (perform C s)) (ret signal)) σ) (λ after. run limit (items C is after))
        (at-statement mayReturn ahead is s (λ τ. statement-lands h τ) lands σ) (λ after τ after-lands. items-lands k after after-lands τ)
    items-lands (kernel-label {mayReturn} {ahead} {is} {l} n k) signal lands σ =
        gives_then (Lands mayReturn (is ⧺ ahead)) (Lands mayReturn ahead) (run limit (pick (enters_mark signal (label l)) (enter (ret next)) (ret signal)) σ) (λ after. run limit (items C is after))
        (at_label mayReturn ahead is l lands σ) (λ after τ after-lands. items-lands k after after-lands τ)

  -- The items of a program; a run passes over its definitions.
  program-lands-items : {program : Items} → KernelProgram program → (σ : State) → Gives (Lands false none) (run limit (items C program next) σ)
  unfolding perform
  program-lands-items (kernel_main k) σ = items-lands k next goes_on σ
  program-lands-items (kernel_define b k) σ = program-lands-items k σ

  -- Ahead of a whole program there is nothing, so every jump has found its label when the run comes to its end.
  pub program-lands : (contents : Items) → KernelProgram contents → (σ : State) → Gives (λ signal. signal ≡ next) (run limit (exec C (block contents)) σ)
  unfolding perform has
  program-lands contents k σ =
      entered limit (λ signal. signal ≡ next) (perform C (block contents)) (λ τ. gives-weaker (Lands false none) (λ signal. signal ≡ next) (run limit (items C contents next) τ) (program-lands-items k τ) ends) σ
    where
      ends : (signal : Signal) → Lands false none signal → signal ≡ next
      ends signal goes_on = refl
      ends signal (jumps e) = absurd (false≢true e)
      ends signal (returns e) = absurd (false≢true e)
