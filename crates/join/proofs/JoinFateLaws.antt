-- The fate of a join, from its run at every budget.
use Rattle.std.specs.Prelude.{◌≡◌, refl, List, ℕ, zero, suc, ◌+◌, ◌-◌, ◌≤◌, ℤ}
use Rattle.std.proofs.Common.{◌∙◌, ap, arith}
use Rattle.words.specs.declared.FaultSort.{FaultSort}
use Rattle.words.specs.declared.Ending.{Ending}
use Rattle.words.specs.declared.Ending.TheVariants.{Plain, Spent, Fault}
use Rattle.computation.specs.Computation.{Computation}
use Rattle.computation.specs.Run.{Result, ok, stopped, spent, fault, Settled, start, steps, run}
use Rattle.computation.proofs.UnlimitedLaws.{enough-same, count-is-enough}
use Rattle.language.specs.Meaning.{Signal}
use Rattle.language.specs.Program.{Finished, finished}
use Rattle.join.specs.Followed.{raised, followed}
use Rattle.join.specs.JoinFate.{EndsAs, NeverEnds, Fate}

-- ---- what follows a run, by its ending

module _ (second : ℕ → List ℤ → Finished) (budget : ℕ) (first : Finished) where
  followed-plain : first.ending ≡ Plain → followed second budget first ≡ raised (suc first.count) (second (budget - first.count) first.store)
  unfolding followed
  followed-plain e = rw e

  followed-spent : first.ending ≡ Spent → followed second budget first ≡ raised 1 first
  unfolding followed
  followed-spent e = rw e

  followed-fault : (sort : FaultSort) → first.ending ≡ Fault sort → followed second budget first ≡ raised 1 first
  unfolding followed
  followed-fault sort e = rw e

-- ---- one program's runs with more budget

-- The runs of one program from one store with every budget: the count is budget enough, and they end in one way.
pub record Steady (runs : ℕ → Finished) : Type 0 where
  pub from_count : (b d : ℕ) → ((runs b).ending ≡ Spent → ⊥) → (runs b).count ≤ d → runs d ≡ runs b
  pub same_end : (b d : ℕ) → ((runs b).ending ≡ Spent → ⊥) → ((runs d).ending ≡ Spent → ⊥) → runs b ≡ runs d

settled : (r : Result Signal) → ((finished r).ending ≡ Spent → ⊥) → Settled r
settled (ok a σ) n = tt
settled (stopped spent σ) n = n refl
settled (stopped (fault sort) σ) n = tt

pub run-steady : (m : Computation Signal) (store : List ℤ) → Steady (λ b. finished (run (steps b) m (start store)))
run-steady m store = record {
  from_count = λ b d n most. ap finished (count-is-enough m (start store) b d (settled (run (steps b) m (start store)) n) most);
  same_end = λ b d n k. ap finished (enough-same m (start store) b d (settled (run (steps b) m (start store)) n) (settled (run (steps d) m (start store)) k));
}

-- ---- the join, from its runs at every budget

module _ (first : ℕ → Finished) (second : List ℤ → ℕ → Finished) (joined : ℕ → Finished) (steady : Steady first) (at_zero : (joined 0).ending ≡ Spent)
    (at-budget : (budget : ℕ) → joined (suc budget) ≡ followed (λ rest left. second left rest) budget (first budget)) where
  abbrev run_second : ℕ → List ℤ → Finished
  run_second rest left = second left rest

  -- A run ends in one way.
  ends-once : (b : ℕ) (end : Finished) → EndsAs first end → ((first b).ending ≡ Spent → ⊥) → first b ≡ end
  ends-once b end e n = steady.same_end b e.budget n (rw e.is e.not_spent) ∙ e.is

  fault-first : (end : Finished) (sort : FaultSort) → EndsAs first end → end.ending ≡ Fault sort → EndsAs joined (raised 1 end)
  fault-first end sort e f = record {
    budget = suc e.budget;
    is = at-budget e.budget ∙ ap (followed run_second e.budget) e.is ∙ followed-fault run_second e.budget end sort f;
    not_spent = e.not_spent;
  }

  plain-first : (left end : Finished) → EndsAs first left → left.ending ≡ Plain → EndsAs (second left.store) end → EndsAs joined (raised (suc left.count) end)
  plain-first left end e p f =
      let budget : ℕ = left.count + f.budget in
      let enough : first budget ≡ left = steady.from_count e.budget budget (rw e.is e.not_spent) (rw e.is (omega arith)) ∙ e.is in
      let rest : budget - left.count ≡ f.budget = omega arith in
      record {
        budget = suc budget;
        is = at-budget budget ∙ ap (followed run_second budget) enough ∙ followed-plain run_second budget left p
            ∙ ap (λ (n : ℕ). raised (suc left.count) (run_second n left.store)) rest ∙ ap (raised (suc left.count)) f.is;
        not_spent = f.not_spent;
      }

  never_first : NeverEnds first → NeverEnds joined
  never_first endless zero = at_zero
  never_first endless (suc budget) =
      ap (λ (run : Finished). run.ending) (at-budget budget ∙ followed-spent run_second budget (first budget) (endless budget)) ∙ endless budget

  -- behind a run of the first that has ended as it does, or is spent
  behind : (left : Finished) → left.ending ≡ Plain → NeverEnds (second left.store) → (budget : ℕ) (run : Finished) (ending : Ending) → run.ending ≡ ending
      → ((run.ending ≡ Spent → ⊥) → run ≡ left) → (followed run_second budget run).ending ≡ Spent
  behind left p endless budget run Spent e same = ap (λ (f : Finished). f.ending) (followed-spent run_second budget run e) ∙ e
  behind left p endless budget run Plain e same =
      let q : run ≡ left = same (λ s. let z : ◌≡◌ {A = ℕ} 0 1 = cc in omega arith) in
      ap (λ (f : Finished). (followed run_second budget f).ending) q ∙ ap (λ (f : Finished). f.ending) (followed-plain run_second budget left p) ∙ endless (budget - left.count)
  behind left p endless budget run (Fault sort) e same =
      let q : run ≡ left = same (λ s. let z : ◌≡◌ {A = ℕ} 0 1 = cc in omega arith) in
      absurd (let z : ◌≡◌ {A = ℕ} 0 1 = cc in omega arith)

  never-second : (left : Finished) → EndsAs first left → left.ending ≡ Plain → NeverEnds (second left.store) → NeverEnds joined
  never-second left e p endless zero = at_zero
  never-second left e p endless (suc budget) =
      ap (λ (run : Finished). run.ending) (at-budget budget) ∙ behind left p endless budget (first budget) _ refl (ends-once budget left e)

  pub fate : Fate first second joined
  fate = record { as_first = fault-first; as_second = plain-first; endless_first = never_first; endless_second = never-second }
