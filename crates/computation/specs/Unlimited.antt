-- Runs with no limit on steps: "a run ends exactly when some whole number as its budget, past 32 bits too, gives another ending
-- than spent. Its ending, count and store are those that the least such number gives."
use Rattle.std.specs.Prelude.{ℕ, ◌≤◌}
use Rattle.computation.specs.Computation.{Computation}
use Rattle.computation.specs.Run.{State, steps, run, Settled}

module _ {A : Type 0} (m : Computation A) (σ : State) where
  -- The run ends with no limit on steps.
  pub record Ends : Type 0 where
    pub budget : ℕ
    pub settled : Settled (run (steps budget) m σ)

  -- The least budget with which it ends.
  pub record LeastBudget : Type 0 where
    pub budget : ℕ
    pub settled : Settled (run (steps budget) m σ)
    pub least : (b : ℕ) → Settled (run (steps b) m σ) → budget ≤ b
