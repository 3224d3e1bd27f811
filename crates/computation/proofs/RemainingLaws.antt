-- Laws of runs told by the steps that are left.
use Rattle.std.specs.Prelude.{◌≡◌, Bool, true, false, List, ℕ, zero, suc, ◌-◌, ◌≤◌, ltb, ℤ}
use Rattle.std.proofs.Math.Path.{refl}
use Rattle.std.proofs.Common.{sym, ap, ◌∙◌, arith, ltb-true, ltb-false}
use Rattle.words.specs.Word.{pick}
use Rattle.computation.specs.Computation.{Turn, again, leave, Computation, ret, ◌>>=◌, ◌>>◌, step, load, save, fail, loop}
use Rattle.computation.specs.Run.{State, start, stepped, spent, Result, ok, stopped, steps, run, run_step, and_then, iterate, after_turn}
use Rattle.computation.proofs.RunLaws.{turn_of, unroll}
use Rattle.computation.specs.Remaining.{Rest, gives, halts, on_turn, onward, pay, spend, turns}

-- A result under `steps b`, told so.
abbrev pub told : {A : Type 0} → ℕ → Result A → Rest A
told b (ok a σ) = gives a (b - σ.count) σ.store
told b (stopped why σ) = halts why (b - σ.count) σ.store

module _ (b : ℕ) where
  then-told : {A B : Type 0} (r : Result A) (m : Rest A) (f : A → State → Result B) (g : A → ℕ → List ℤ → Rest B) → m ≡ told b r
      → ((a : A) (τ : State) → g a (b - τ.count) τ.store ≡ told b (f a τ)) → onward m g ≡ told b (and_then r f)
  then-told (ok a τ) m f g h k = rw h (k a τ)
  then-told (stopped why τ) m f g h k = rw h

  pay-told : (σ : State) → pay (b - σ.count) σ.store ≡ told b (run_step (steps b) σ)
  pay-told σ = by (ltb σ.count b) refl (b - σ.count) refl
    where
      by : (room : Bool) → ltb σ.count b ≡ room → (n : ℕ) → b - σ.count ≡ n → pay n σ.store ≡ told b (pick room (ok tt (stepped σ)) (stopped spent σ))
      by true e zero d = absurd (omega (arith, ltb-true σ.count b e))
      by true e (suc n) d = ap (λ (k : ℕ). gives tt k σ.store) (omega arith)
      by false e zero d = ap (λ (k : ℕ). halts spent k σ.store) (omega arith)
      by false e (suc n) d = absurd (omega (arith, ltb-false σ.count b e))

  turns-told : {A : Type 0} (body : State → Result (Turn A)) (bodies : ℕ → List ℤ → Rest (Turn A))
      → ((σ : State) → bodies (b - σ.count) σ.store ≡ told b (body σ))
      → (k : ℕ) (σ : State) → turns k bodies (b - σ.count) σ.store ≡ told b (iterate (steps b) k body σ)
  turns-told body bodies h zero σ = refl
  turns-told {A} body bodies h (suc k) σ =
      then-told (run_step (steps b) σ) (pay (b - σ.count) σ.store) _ _ (pay-told σ) (λ _ τ. then-told (body τ) (bodies (b - τ.count) τ.store) _ _ (h τ) (turn-told (turns-told body bodies h k)))
    where
      turn-told : ((τ : State) → turns k bodies (b - τ.count) τ.store ≡ told b (iterate (steps b) k body τ))
          → (t : Turn A) (τ : State) → on_turn (turns k bodies) t (b - τ.count) τ.store ≡ told b (after_turn (iterate (steps b) k body) t τ)
      turn-told g again τ = g τ
      turn-told g (leave a) τ = refl

  spend-told : {A : Type 0} (m : Computation A) (σ : State) → spend m (b - σ.count) σ.store ≡ told b (run (steps b) m σ)
  unfolding run spend
  spend-told m = elim m as (λ A m. (σ : State) → spend m (b - σ.count) σ.store ≡ told b (run (steps b) m σ)) [
    | ret a ↦ λ σ. refl
    | (m → told-m) >>= (k → told-k) ↦ λ σ. then-told (run (steps b) m σ) (spend m (b - σ.count) σ.store) _ _ (told-m σ) told-k
    | step ↦ λ σ. pay-told σ
    | load i ↦ λ σ. refl
    | save i v ↦ λ σ. refl
    | fail sort ↦ λ σ. refl
    | loop (body → told-body) ↦ λ σ. turns-told (run (steps b) body) (spend body) told-body (suc (b - σ.count)) σ
  ]

  -- `spend` with the budget left is `run` under the budget.
  pub spend-is-run : {A : Type 0} (m : Computation A) (s : List ℤ) → spend m b s ≡ told b (run (steps b) m (start s))
  spend-is-run m s = ap (λ (k : ℕ). spend m k s) (omega arith) ∙ spend-told m (start s)

abbrev pub left_of : {A : Type 0} → Rest A → ℕ
left_of (gives a n s) = n
left_of (halts why n s) = n

told-left : {A : Type 0} (b : ℕ) (r : Result A) → left_of (told b r) ≤ b
told-left b (ok a σ) = omega arith
told-left b (stopped why σ) = omega arith

-- The steps left never rise.
pub left-never-rises : {A : Type 0} (m : Computation A) (n : ℕ) (s : List ℤ) → left_of (spend m n s) ≤ n
left-never-rises m n s = rw (spend-is-run n m s) (told-left n (run (steps n) m (start s)))

-- A loop is its unrolling.
pub spend-unroll : {A : Type 0} (m : Computation (Turn A)) (n : ℕ) (s : List ℤ) → spend (loop m) n s ≡ spend (step >> (m >>= turn_of (loop m))) n s
spend-unroll m n s = spend-is-run n (loop m) s ∙ ap (told n) (unroll n m (start s)) ∙ sym (spend-is-run n (step >> (m >>= turn_of (loop m))) s)
