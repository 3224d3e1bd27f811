-- Laws of the runs of programs: enough budget. The laws of runs, carried over.
use Rattle.std.proofs.Math.Path.{◌≡◌, refl, ap}
use Rattle.std.specs.Prelude.{List, ℕ, ◌≤◌, ℤ, length}
use native.Mathlib.Omega.{arith}
use Rattle.words.specs.declared.Form.{Form}
use Rattle.words.specs.declared.Ending.TheVariants.{Spent}
use Rattle.computation.specs.Run.{Result, ok, stopped, spent, fault, steps, run, start}
use Rattle.computation.proofs.RunLaws.{count-never-passes, store-keeps-length, within-budget, Within}
use Rattle.computation.specs.Unlimited.{Ends, LeastBudget}
use Rattle.computation.proofs.UnlimitedLaws.{least-or-more, least-is-count}
use Rattle.language.specs.Meaning.{Signal}
use Rattle.language.specs.Program.{finished, table_program, run_table_under, run_table}
use Rattle.language_programs.specs.Program.{program_of, run_program}

module _ (form : Form) (header rows store : List ℤ) where
  -- With no limit on steps the run ends.
  abbrev pub EndsUnlimited : Type 0
  EndsUnlimited = Ends (program_of form header rows) (start store)

  -- "A machine whose budget is that number or more gives the same."
  pub budget-or-more : (l : LeastBudget (program_of form header rows) (start store)) (b : ℕ) → l.budget ≤ b
      → run_program form header rows b store ≡ run_program form header rows l.budget store
  unfolding program_of run_table_under run_table run_program
  budget-or-more l b h = ap finished (least-or-more (program_of form header rows) (start store) refl l b h)

  -- "Its ending, count and store are those that the least such number gives": the count is that number itself.
  pub budget-is-count : (l : LeastBudget (program_of form header rows) (start store)) → (run_program form header rows l.budget store).count ≡ l.budget
  unfolding program_of run_table_under run_table run_program
  budget-is-count l = least-is-count (program_of form header rows) (start store) refl l

  -- "The count is the number of steps": never more than the budget, and the store keeps its length.
  pub count-within-budget : (b : ℕ) → (run_program form header rows b store).count ≤ b
  unfolding program_of run_table_under run_table run_program
  count-within-budget b = count-never-passes b (program_of form header rows) (start store) (omega arith)

  pub store_length : (b : ℕ) → length (run_program form header rows b store).store ≡ length store
  unfolding program_of run_table_under run_table run_program
  store_length b = store-keeps-length (steps b) (program_of form header rows) (start store)

  -- "0 gives spent with count 0": the entry of row 0 falls due.
  pub budget-zero : run_program form header rows 0 store ≡ record { ending = Spent; count = 0; store = store }
  unfolding run table_program run_table_under run_table run_program
  budget-zero = refl

  -- Spent, the whole budget is used.
  pub spent-uses-all : (b : ℕ) → (run_program form header rows b store).ending ≡ Spent → (run_program form header rows b store).count ≡ b
  unfolding program_of run_table_under run_table run_program
  spent-uses-all b e = by (run (steps b) (program_of form header rows) (start store)) (within-budget b (program_of form header rows) (start store) (omega arith)) e
    where
      by : (r : Result Signal) → Within b r → (finished r).ending ≡ Spent → (finished r).count ≡ b
      by (ok a σ) w e = let z : ◌≡◌ {A = ℕ} 0 1 = cc in omega arith
      by (stopped spent σ) w e = w
      by (stopped (fault sort) σ) w e = let z : ◌≡◌ {A = ℕ} 0 1 = cc in omega arith
