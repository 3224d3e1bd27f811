-- DayLaws: a line runs the rule, a list of lines is done one part after the other, every line is counted once, and one that does not end plainly changes nothing.
use Rattle.std.specs.Prelude.{◌≡◌, ℕ, ◌+◌, ℤ, length}
use Rattle.std.proofs.Math.Path.{refl}
use mathlib.Core.List.{List, [], ◌∷◌, ◌++◌}
use native.Mathlib.Omega.{arith}
use Rattle.words.specs.declared.Form.TheVariants.{Source}
use Rattle.words.specs.declared.Ending.{Ending}
use Rattle.words.specs.declared.Ending.TheVariants.{Plain, Spent, Fault}
use Rattle.language.specs.Program.{run_table}
use Rattle.language_programs.specs.Program.{resolved_rows, run_program}
use Rattle.text_rules.specs.Rules.{budget}
use Rattle.day_run.specs.Days.{Day, store_pairs, unchanged, after_run, do_line, do_lines}

-- The rows being those of the rule's resolved table, a line does what the run of the rule does.
pub line-runs-rule : (header rows pairs : List ℤ) (day : Day)
    → do_line header (resolved_rows Source header rows) pairs day ≡ (let finished = run_program Source header rows budget (store_pairs pairs day.store) in after_run finished.ending finished.store day)
unfolding do_line run_program
line-runs-rule header rows pairs day = refl

module _ (header rows : List ℤ) where
  pub lines-append : (first second : List (List ℤ)) (day : Day) → do_lines header rows (first ++ second) day ≡ do_lines header rows second (do_lines header rows first day)
  unfolding do_lines
  lines-append [] second day = refl
  lines-append (pairs ∷ first) second day = lines-append first second (do_line header rows pairs day)

  -- ---- no change

  not_plain : (ending : Ending) (left : List ℤ) (day : Day) → (ending ≡ Plain → ⊥) → after_run ending left day ≡ unchanged day
  not_plain Plain left day h = absurd (h refl)
  not_plain Spent left day h = refl
  not_plain (Fault sort) left day h = refl

  pub line-unchanged : (pairs : List ℤ) (day : Day) → ((run_table Source header rows budget (store_pairs pairs day.store)).ending ≡ Plain → ⊥) → do_line header rows pairs day ≡ unchanged day
  unfolding do_line
  line-unchanged pairs day h = not_plain (run_table Source header rows budget (store_pairs pairs day.store)).ending _ day h

  -- ---- counts

  after-counted : (ending : Ending) (left : List ℤ) (day : Day) → (after_run ending left day).plain + (after_run ending left day).other ≡ day.plain + day.other + 1
  after-counted Plain left day = omega arith
  after-counted Spent left day = omega arith
  after-counted (Fault sort) left day = omega arith

  line-counted : (pairs : List ℤ) (day : Day) → (do_line header rows pairs day).plain + (do_line header rows pairs day).other ≡ day.plain + day.other + 1
  unfolding do_line
  line-counted pairs day =
      let finished = run_table Source header rows budget (store_pairs pairs day.store) in
      after-counted finished.ending finished.store day

  pub lines-counted : (lines : List (List ℤ)) (day : Day) → (do_lines header rows lines day).plain + (do_lines header rows lines day).other ≡ day.plain + day.other + length lines
  unfolding do_lines
  lines-counted [] day = omega arith
  lines-counted (pairs ∷ lines) day = omega (arith, lines-counted lines (do_line header rows pairs day), line-counted pairs day)
