-- What a computation does under a limit.
use Rattle.std.specs.Prelude.{Bool, true, List, [], ◌∷◌, ℕ, zero, suc, ◌-◌, ltb, ℤ, pos, get_or, set}
use Rattle.words.specs.Word.{pick}
use Rattle.words.specs.declared.FaultSort.{FaultSort}
use Rattle.words.specs.declared.Ending.{Ending}
use Rattle.words.specs.declared.Ending.TheVariants.{Plain, Spent, Fault}
use Rattle.computation.specs.Computation.{Turn, again, leave, Computation, ret, ◌>>=◌, step, load, save, fail, loop}

-- A store word that was written: which, the value, and the count of steps at that moment.
pub record Write : Type 0 where
  pub place : ℕ
  pub value : ℤ
  pub when : ℕ

-- The store, the steps made, and the writes made, the last one first.
pub record State : Type 0 where
  pub store : List ℤ
  pub count : ℕ
  pub writes : List Write

abbrev pub start : List ℤ → State
start store = record { store = store; count = 0; writes = [] }

abbrev pub stepped : State → State
stepped σ = record { store = σ.store; count = suc σ.count; writes = σ.writes }

abbrev pub written : ℕ → ℤ → State → State
written i v σ = record { store = set σ.store i v; count = σ.count; writes = record { place = i; value = v; when = σ.count } ∷ σ.writes }

-- Why a run stopped before its end.
pub data Stop : Type 0 where
  spent : Stop
  fault : FaultSort → Stop

-- A value, or why the run stopped; and the state as it stood then.
pub data Result (A : Type 0) : Type 0 where
  ok : A → State → Result A
  stopped : Stop → State → Result A

-- `steps b`: document 01's budget, at most b steps. `rounds c`: no limit on steps, but each loop goes round at most c times.
pub data Limit : Type 0 where
  steps rounds : ℕ → Limit

abbrev pub and_then : {A B : Type 0} → Result A → (A → State → Result B) → Result B
and_then (ok a σ) next = next a σ
and_then (stopped why σ) next = stopped why σ

-- Whether one step more is within the limit.
abbrev pub has_room : Limit → State → Bool
has_room (steps b) σ = ltb σ.count b
has_room (rounds c) σ = true

-- "Spent is given where one step more than the budget would be needed, and the store is as it stood when that step fell due".
abbrev pub run_step : Limit → State → Result (Unit {0})
run_step l σ = pick (has_room l σ) (ok tt (stepped σ)) (stopped spent σ)

-- How many rounds a loop may go. A round takes a step, so under `steps b` one round more than the steps left is never made.
abbrev pub rounds_from : Limit → State → ℕ
rounds_from (steps b) σ = suc (b - σ.count)
rounds_from (rounds c) σ = c

-- After a round: go round again, or be done.
abbrev pub after_turn : {A : Type 0} → (State → Result A) → Turn A → State → Result A
after_turn more again σ = more σ
after_turn more (leave a) σ = ok a σ

-- At most n rounds of a body, each begun by a counted step.
abbrev pub iterate : {A : Type 0} → Limit → ℕ → (State → Result (Turn A)) → State → Result A
iterate l zero body σ = stopped spent σ
iterate l (suc n) body σ = and_then (run_step l σ) (λ _ τ. and_then (body τ) (after_turn (iterate l n body)))

unfoldable pub run : {A : Type 0} → Limit → Computation A → State → Result A
run l m = elim m as (λ A _. State → Result A) [
  | ret a ↦ λ σ. ok a σ
  | (m → run-m) >>= (k → run-k) ↦ λ σ. and_then (run-m σ) run-k
  | step ↦ λ σ. run_step l σ
  | load i ↦ λ σ. ok (get_or σ.store i (pos 0)) σ
  | save i v ↦ λ σ. ok tt (written i v σ)
  | fail sort ↦ λ σ. stopped (fault sort) σ
  | loop (body → run-body) ↦ λ σ. iterate l (rounds_from l σ) run-body σ
]

-- The state in which a run came to its end or stopped.
abbrev pub final : {A : Type 0} → Result A → State
final (ok a σ) = σ
final (stopped why σ) = σ

-- "A run ends plainly, spent, or with a fault", of one of four sorts.
abbrev pub ending_of : {A : Type 0} → Result A → Ending
ending_of (ok a σ) = Plain
ending_of (stopped spent σ) = Spent
ending_of (stopped (fault sort) σ) = Fault sort

-- "Another ending than spent."
abbrev pub Settled : {A : Type 0} → Result A → Type 0
Settled (ok a σ) = Unit {0}
Settled (stopped spent σ) = ⊥
Settled (stopped (fault sort) σ) = Unit {0}
