-- The same runs, told by the steps that are left: what a machine carries.
use Rattle.std.specs.Prelude.{List, ℕ, zero, suc, ℤ, pos, get_or, set}
use Rattle.computation.specs.Computation.{Turn, again, leave, Computation, ret, ◌>>=◌, step, load, save, fail, loop}
use Rattle.computation.specs.Run.{Stop, spent, fault}

-- How a part of a run ends: with a value, or halted; with the steps left and the store.
pub data Rest (A : Type 0) : Type 0 where
  gives : A → ℕ → List ℤ → Rest A
  halts : Stop → ℕ → List ℤ → Rest A

abbrev pub onward : {A B : Type 0} → Rest A → (A → ℕ → List ℤ → Rest B) → Rest B
onward (gives a n s) next = next a n s
onward (halts why n s) next = halts why n s

-- One step, if one is left.
abbrev pub pay : ℕ → List ℤ → Rest (Unit {0})
pay zero s = halts spent zero s
pay (suc n) s = gives tt n s

abbrev pub on_turn : {A : Type 0} → (ℕ → List ℤ → Rest A) → Turn A → ℕ → List ℤ → Rest A
on_turn more again n s = more n s
on_turn more (leave a) n s = gives a n s

-- At most k rounds; each takes a step, so one more than the steps left are enough.
abbrev pub turns : {A : Type 0} → ℕ → (ℕ → List ℤ → Rest (Turn A)) → ℕ → List ℤ → Rest A
turns zero body n s = halts spent n s
turns (suc k) body n s = onward (pay n s) (λ _ n s. onward (body n s) (on_turn (turns k body)))

unfoldable pub spend : {A : Type 0} → Computation A → ℕ → List ℤ → Rest A
spend m = elim m as (λ A _. ℕ → List ℤ → Rest A) [
  | ret a ↦ λ n s. gives a n s
  | (m → spend-m) >>= (k → spend-k) ↦ λ n s. onward (spend-m n s) spend-k
  | step ↦ λ n s. pay n s
  | load i ↦ λ n s. gives (get_or s i (pos 0)) n s
  | save i v ↦ λ n s. gives tt n (set s i v)
  | fail sort ↦ λ n s. halts (fault sort) n s
  | loop (body → spend-body) ↦ λ n s. turns (suc n) spend-body n s
]
