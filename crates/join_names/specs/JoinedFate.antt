-- All that is promised of a join: "every comparison .. of a join with its rules, are over the first S, whatever the D words held at the
-- start".
use Rattle.std.specs.Prelude.{◌≡◌, List, ◌++◌, ℕ, suc, ℤ, length, take}
use Rattle.words.specs.Declarations.{declaration_count}
use Rattle.words.specs.Layout.{layout_of, store_size}
use Rattle.words.specs.declared.Form.TheVariants.{Source}
use Rattle.language.specs.Program.{Finished}
use Rattle.language_programs.specs.Program.{run_program}
use Rattle.check_source.specs.Legal.{Legal}
use Rattle.join.specs.Followed.{followed}
use Rattle.join.specs.JoinFate.{Fate}

-- What is compared of a run: its ending, its count and the first S words.
abbrev pub shown : ℕ → Finished → Finished
shown S run = record { ending = run.ending; count = run.count; store = take S run.store }

-- Of a source program's run with a budget.
abbrev pub shown_run : (header rows : List ℤ) → ℕ → List ℤ → Finished
shown_run header rows budget store = shown (store_size (layout_of Source header)) (run_program Source header rows budget store)

-- The words behind the first S at the start of three runs, of two programs and of the program that joins them: they hold anything, in each run by itself.
pub record Declared (first second joined own other all : List ℤ) : Type 0 where
  pub of-first : length own ≡ declaration_count first
  pub of-second : length other ≡ declaration_count second
  pub of_join : length all ≡ declaration_count joined

-- "Join two legal source programs into a legal one that runs the first, then the second", from every store of S words.
pub record Joins (header first second joined : List ℤ) : Type 0 where
  pub legal : Legal header joined
  -- With every budget: one step for the new block, and then the first, followed by the second.
  pub runs : (store own other all : List ℤ) → length store ≡ store_size (layout_of Source header) → Declared first second joined own other all
      → (budget : ℕ) → shown_run header joined (suc budget) (store ++ all) ≡ followed (λ rest left. shown_run header second rest (left ++ other)) budget (shown_run header first budget (store ++ own))
  -- With no limit on steps.
  pub fate : (store own other all : List ℤ) → length store ≡ store_size (layout_of Source header) → Declared first second joined own other all
      → Fate (λ budget. shown_run header first budget (store ++ own)) (λ left budget. shown_run header second budget (left ++ other)) (λ budget. shown_run header joined budget (store ++ all))
