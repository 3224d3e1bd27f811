-- Gives: runs that give a value with a property, unless they are stopped. One law for a sequence, a row's entry, a choice and a loop.
use Rattle.std.specs.Prelude.{Bool, true, false, ℕ, zero, suc}
use Rattle.words.specs.Word.{pick}
use Rattle.computation.specs.Computation.{Turn, again, leave, Computation}
use Rattle.computation.specs.Run.{State, Result, ok, stopped, Limit, and_then, run_step, after_turn, iterate, run}
use Rattle.language.specs.Meaning.{enter}

abbrev pub Gives : {A : Type 0} → (A → Type 0) → Result A → Type 0
Gives P (ok a σ) = P a
Gives P (stopped why σ) = Unit {0}

abbrev pub Any : {A : Type 0} → A → Type 0
Any a = Unit {0}

pub any : {A : Type 0} (r : Result A) → Gives Any r
any (ok a σ) = tt
any (stopped why σ) = tt

pub gives-weaker : {A : Type 0} (P Q : A → Type 0) (r : Result A) → Gives P r → ((a : A) → P a → Q a) → Gives Q r
gives-weaker P Q (ok a σ) p h = h a p
gives-weaker P Q (stopped why σ) p h = tt

pub gives_then : {A B : Type 0} (P : A → Type 0) (Q : B → Type 0) (r : Result A) (k : A → State → Result B) → Gives P r → ((a : A) (τ : State) → P a → Gives Q (k a τ)) → Gives Q (and_then r k)
gives_then P Q (ok a σ) k p h = h a σ p
gives_then P Q (stopped why σ) k p h = tt

-- What a round leaves the loop with.
abbrev pub Leaves : {A : Type 0} → (A → Type 0) → Turn A → Type 0
Leaves P again = Unit {0}
Leaves P (leave a) = P a

turned : {A : Type 0} (P : A → Type 0) (more : State → Result A) (turn : Turn A) (ν : State) → Leaves P turn → Gives P (more ν) → Gives P (after_turn more turn ν)
turned P more again ν p r = r
turned P more (leave a) ν p r = p

pub gives-iterate : {A : Type 0} (P : A → Type 0) (l : Limit) (n : ℕ) (body : State → Result (Turn A)) → ((σ : State) → Gives (Leaves P) (body σ)) → (σ : State) → Gives P (iterate l n body σ)
gives-iterate P l zero body h σ = tt
gives-iterate P l (suc n) body h σ =
    gives_then Any P (run_step l σ) (λ _ τ. and_then (body τ) (after_turn (iterate l n body))) (any (run_step l σ))
    (λ _ τ _. gives_then (Leaves P) P (body τ) (after_turn (iterate l n body)) (h τ) (λ turn ν p. turned P (iterate l n body) turn ν p (gives-iterate P l n body h ν)))

module _ (limit : Limit) where
  pub entered : {A : Type 0} (P : A → Type 0) (m : Computation A) → ((σ : State) → Gives P (run limit m σ)) → (σ : State) → Gives P (run limit (enter m) σ)
  unfolding run
  entered P m h σ = gives_then Any P (run_step limit σ) (λ _ τ. run limit m τ) (any (run_step limit σ)) (λ _ τ _. h τ)

  pub chosen : {A : Type 0} (P : A → Type 0) (test : Bool) (m n : Computation A) → ((σ : State) → Gives P (run limit m σ)) → ((σ : State) → Gives P (run limit n σ)) → (σ : State) → Gives P (run limit (pick test m n) σ)
  chosen P true m n f g σ = f σ
  chosen P false m n f g σ = g σ
