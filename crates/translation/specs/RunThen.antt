-- A computation run with what follows it, under `rounds c`: the same as `run`, by induction on computations. Sequences then compute,
-- so that straight code needs no rule.
use Rattle.std.specs.Prelude.{◌≡◌, refl, ℕ, zero, suc, pos, get_or}
use Rattle.std.proofs.Common.{◌∙◌}
use Rattle.computation.specs.Computation.{Turn, again, leave, Computation, ret, ◌>>=◌, step, load, save, fail, loop}
use Rattle.computation.specs.Run.{State, stepped, written, spent, fault, Result, ok, stopped, rounds, and_then, after_turn, iterate, run}

abbrev pub turn_then : {A B : Type 0} → (State → Result B) → (A → State → Result B) → Turn A → State → Result B
turn_then more k again σ = more σ
turn_then more k (leave a) σ = k a σ

abbrev pub rounds_then : {A B : Type 0} → ℕ → (State → (Turn A → State → Result B) → Result B) → State → (A → State → Result B) → Result B
rounds_then zero body σ k = stopped spent σ
rounds_then (suc n) body σ k = body (stepped σ) (turn_then (λ τ. rounds_then n body τ k) k)

unfoldable pub run_then : {A B : Type 0} → ℕ → Computation A → State → (A → State → Result B) → Result B
run_then {A} {B} c m = elim m as (λ A _. State → (A → State → Result B) → Result B) [
  | ret a ↦ λ σ k. k a σ
  | (m → run-m) >>= (f → run-f) ↦ λ σ k. run-m σ (λ a τ. run-f a τ k)
  | step ↦ λ σ k. k tt (stepped σ)
  | load i ↦ λ σ k. k (get_or σ.store i (pos 0)) σ
  | save i v ↦ λ σ k. k tt (written i v σ)
  | fail sort ↦ λ σ k. stopped (fault sort) σ
  | loop (body → run-body) ↦ λ σ k. rounds_then c run-body σ k
]

assoc : {A B C : Type 0} (r : Result A) (f : A → State → Result B) (g : B → State → Result C) {h : A → State → Result C}
    → ((a : A) (σ : State) → h a σ ≡ and_then (f a σ) g) → and_then r h ≡ and_then (and_then r f) g
assoc (ok a σ) f g e = e a σ
assoc (stopped why σ) f g e = refl

module _ {A B : Type 0} (c : ℕ) (body : State → Result (Turn A)) (bodies : State → (Turn A → State → Result B) → Result B)
    (same : (σ : State) (k : Turn A → State → Result B) → bodies σ k ≡ and_then (body σ) k) (k : A → State → Result B) where
  rounds-iterate : (n : ℕ) (σ : State) → rounds_then n bodies σ k ≡ and_then (iterate (rounds c) n body σ) k
  rounds-iterate zero σ = refl
  rounds-iterate (suc n) σ = same (stepped σ) _ ∙ assoc (body (stepped σ)) _ k (turned (rounds-iterate n))
    where
      turned : ((τ : State) → rounds_then n bodies τ k ≡ and_then (iterate (rounds c) n body τ) k) → (t : Turn A) (τ : State)
          → turn_then (λ τ. rounds_then n bodies τ k) k t τ ≡ and_then (after_turn (iterate (rounds c) n body) t τ) k
      turned h again τ = h τ
      turned h (leave a) τ = refl

-- It is `run`, and then what follows.
pub then-run : {A B : Type 0} (c : ℕ) (m : Computation A) (σ : State) (k : A → State → Result B) → run_then c m σ k ≡ and_then (run (rounds c) m σ) k
unfolding run_then run
then-run {A} {B} c m = elim m as (λ A m. (σ : State) (k : A → State → Result B) → run_then c m σ k ≡ and_then (run (rounds c) m σ) k) [
  | ret a ↦ λ σ k. refl
  | (m → same-m) >>= (f → same-f) ↦ λ σ k. same-m σ _ ∙ assoc (run (rounds c) m σ) _ k (λ a τ. same-f a τ k)
  | step ↦ λ σ k. refl
  | load i ↦ λ σ k. refl
  | save i v ↦ λ σ k. refl
  | fail sort ↦ λ σ k. refl
  | loop (body → same_body) ↦ λ σ k. rounds-iterate c (run (rounds c) body) (run_then c body) same_body k c σ
]

then_ok : {A : Type 0} (r : Result A) → and_then r ok ≡ r
then_ok (ok a σ) = refl
then_ok (stopped why σ) = refl

-- Followed by nothing, it is `run`.
pub run_then-run : {A : Type 0} (c : ℕ) (m : Computation A) (σ : State) → run_then c m σ ok ≡ run (rounds c) m σ
run_then-run c m σ = then-run c m σ ok ∙ then_ok (run (rounds c) m σ)
