-- Laws of runs with no limit on steps: "A machine whose budget is that number or more gives the same."
use Rattle.std.specs.Prelude.{◌≡◌, ℕ, suc, ◌+◌, ◌≤◌}
use Rattle.std.proofs.Common.{sym, ◌∙◌, ap, arith}
use Rattle.computation.specs.Computation.{Computation}
use Rattle.computation.specs.Run.{State, steps, run, final, Settled}
use Rattle.computation.proofs.RunLaws.{count-never-passes, run_wider, wider-budget, budget-rounds, rounds-budget}
use Rattle.computation.specs.Unlimited.{Ends, LeastBudget}

module _ {A : Type 0} (m : Computation A) (σ : State) where
  -- Any two budgets that are enough give the same.
  pub enough-same : (b d : ℕ) → Settled (run (steps b) m σ) → Settled (run (steps d) m σ) → run (steps b) m σ ≡ run (steps d) m σ
  enough-same b d s t = sym (budget-rounds m σ b (suc (b + d)) (omega arith) s) ∙ budget-rounds m σ d (suc (b + d)) (omega arith) t

  -- Every budget from the count on is enough.
  pub count-is-enough : (b d : ℕ) → Settled (run (steps b) m σ) → (final (run (steps b) m σ)).count ≤ d → run (steps d) m σ ≡ run (steps b) m σ
  count-is-enough b d s most =
      let e = budget-rounds m σ b (suc b) (omega arith) s in
      rounds-budget m σ (suc b) d (rw e s) (rw e most) ∙ e

module _ {A : Type 0} (m : Computation A) (σ : State) (fresh : σ.count ≡ 0) where
  -- The least budget is there, and it is the count.
  pub least-budget : Ends m σ → LeastBudget m σ
  least-budget e =
      let r = run (steps e.budget) m σ in
      record {
        budget = (final r).count;
        settled = rw (count-is-enough m σ e.budget (final r).count e.settled (omega arith)) e.settled;
        least = λ b s. omega (arith, count-never-passes b m σ (omega arith), ap (λ q. (final q).count) (enough-same m σ e.budget b e.settled s));
      }

  pub least-is-count : (l : LeastBudget m σ) → (final (run (steps l.budget) m σ)).count ≡ l.budget
  least-is-count l =
      let k = (final (run (steps l.budget) m σ)).count in
      let s : Settled (run (steps k) m σ) = rw (count-is-enough m σ l.budget k l.settled (omega arith)) l.settled in
      omega (arith, l.least k s, count-never-passes l.budget m σ (omega arith))

  -- That number or more gives the same.
  pub least-or-more : (l : LeastBudget m σ) (d : ℕ) → l.budget ≤ d → run (steps d) m σ ≡ run (steps l.budget) m σ
  least-or-more l d h = run_wider m σ (steps l.budget) (steps d) (wider-budget l.budget d h) l.settled
