-- Fate: demand 3, about rows and words. "Its run and its translation's run share their fate".
use Rattle.std.specs.Prelude.{◌≡◌, ◌↔◌, List, ◌++◌, ℕ, ◌*◌, ◌≤◌, ℤ, length, take}
use Rattle.words.specs.Table.{row_count}
use Rattle.words.specs.Declarations.{declaration_count}
use Rattle.words.specs.Layout.{layout_of, store_size, temporaries_of}
use Rattle.words.specs.declared.Form.TheVariants.{Source, Kernel}
use Rattle.words.specs.declared.Ending.TheVariants.{Spent}
use Rattle.language.specs.Program.{Finished}
use Rattle.language_programs.specs.Program.{run_program}

-- A source program and a kernel program, started on the same variables and arrays; each on declared words of its own, the kernel with these
-- temporaries.
module _ (header rows kernel_header kernel_rows store declared kernelDeclared temporaries : List ℤ) where
  abbrev pub source_run : ℕ → Finished
  source_run budget = run_program Source header rows budget (store ++ declared)

  abbrev pub kernel_run : ℕ → Finished
  kernel_run budget = run_program Kernel kernel_header kernel_rows budget (store ++ (kernelDeclared ++ temporaries))

  -- "with no limit on steps, a run ends exactly when some whole number as its budget .. gives another ending than spent"
  pub record SourceEnds : Type 0 where
    pub budget : ℕ
    pub ends : (source_run budget).ending ≡ Spent → ⊥

  pub record KernelEnds : Type 0 where
    pub budget : ℕ
    pub ends : (kernel_run budget).ending ≡ Spent → ⊥

  pub record SharedFate : Type 0 where
    -- "with no limit on steps one ends exactly when the other does;"
    pub end-together : SourceEnds ↔ KernelEnds
    -- for budgets that are enough: "then both plainly or both with a fault of the same sort,"
    pub same_ending : (b d : ℕ) → ((source_run b).ending ≡ Spent → ⊥) → ((kernel_run d).ending ≡ Spent → ⊥) → (kernel_run d).ending ≡ (source_run b).ending
    -- "with every variable and array cell equal;" these are the first S words: "every comparison of source with kernel .. are over the first S"
    pub same-cells : (b d : ℕ) → ((source_run b).ending ≡ Spent → ⊥) → ((kernel_run d).ending ≡ Spent → ⊥)
        → take (store_size (layout_of Source header)) (kernel_run d).store ≡ take (store_size (layout_of Source header)) (source_run b).store
    -- "and the kernel's count is at most the translation's rows × the source's count."
    pub count-bound : (b d : ℕ) → ((source_run b).ending ≡ Spent → ⊥) → ((kernel_run d).ending ≡ Spent → ⊥) → (kernel_run d).count ≤ row_count kernel_rows * (source_run b).count

-- "whatever its variables and arrays hold and whatever stands in the temporaries"; "whatever the D words held at the start", in either run.
abbrev pub ShareFate : List ℤ → List ℤ → List ℤ → List ℤ → Type 0
ShareFate header rows kernel_header kernel_rows =
    (store declared kernelDeclared temporaries : List ℤ) → length store ≡ store_size (layout_of Source header)
    → length declared ≡ declaration_count rows → length kernelDeclared ≡ declaration_count rows → length temporaries ≡ temporaries_of Kernel kernel_header
    → SharedFate header rows kernel_header kernel_rows store declared kernelDeclared temporaries
