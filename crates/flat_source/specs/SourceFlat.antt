-- Source and flat: what it is for a source program and a flat list to share their fate; demand 3 and Change 10 in one.
use Rattle.std.specs.Prelude.{◌≡◌, true, false, ◌↔◌, List, ◌++◌, ℕ, ◌<◌, ℤ, length, take, Err, Ok}
use Rattle.words.specs.Table.{row_count}
use Rattle.words.specs.Declarations.{declaration_count}
use Rattle.words.specs.Layout.{layout_of, store_size, temporaries_of}
use Rattle.words.specs.declared.Form.TheVariants.{Source, Kernel}
use Rattle.words.specs.declared.Ending.TheVariants.{Spent}
use Rattle.language.specs.Program.{Finished}
use Rattle.language_programs.specs.Program.{run_program}
use Rattle.check_function_causes.specs.Functions.{is_definition}
use Rattle.check_source.specs.Refusal.{refusal as source_refusal}
use Rattle.translation_fate.specs.KernelForms.{kernel_header_of, kernel_rows_of}
use Rattle.check_plain.specs.Refusal.{plain_refusal}
use Rattle.flat.specs.Refusal.{refusal as flat_refusal}
use Rattle.flat.specs.Results.{run_list}
use Rattle.flat_fate.specs.FlatWords.{flattened}

-- A source program and a flat list, started on the same variables and arrays; each on declared words of its own, the list with these
-- temporaries.
module _ (header rows kernel_header list store declared flatDeclared temporaries : List ℤ) where
  abbrev pub source_run : ℕ → Finished
  source_run budget = run_program Source header rows budget (store ++ declared)

  abbrev pub flat_run : ℕ → Finished
  flat_run budget = run_list kernel_header list budget (store ++ (flatDeclared ++ temporaries))

  pub record SourceEnds : Type 0 where
    pub budget : ℕ
    pub ends : (source_run budget).ending ≡ Spent → ⊥

  pub record FlatEnds : Type 0 where
    pub budget : ℕ
    pub ends : (flat_run budget).ending ≡ Spent → ⊥

  pub record SharedFate : Type 0 where
    pub end-together : SourceEnds ↔ FlatEnds
    pub same_ending : (b d : ℕ) → ((source_run b).ending ≡ Spent → ⊥) → ((flat_run d).ending ≡ Spent → ⊥) → (flat_run d).ending ≡ (source_run b).ending
    -- "every comparison of source with kernel .. are over the first S"
    pub same-cells : (b d : ℕ) → ((source_run b).ending ≡ Spent → ⊥) → ((flat_run d).ending ≡ Spent → ⊥)
        → take (store_size (layout_of Source header)) (flat_run d).store ≡ take (store_size (layout_of Source header)) (source_run b).store

-- What a flat list has to be for a source program.
pub record FlatFormOf (header rows kernel_header list : List ℤ) : Type 0 where
  -- the list's own check takes it
  pub accepted : flat_refusal kernel_header list ≡ (Ok tt)
  -- "whatever its variables and arrays hold and whatever stands in the temporaries"; "whatever the D words held at the start", in either run
  pub share_fate : (store declared flatDeclared temporaries : List ℤ) → length store ≡ store_size (layout_of Source header)
      → length declared ≡ declaration_count rows → length flatDeclared ≡ declaration_count rows → length temporaries ≡ temporaries_of Kernel kernel_header
      → SharedFate header rows kernel_header list store declared flatDeclared temporaries

-- No row defines a function.
abbrev pub WithoutFunctions : List ℤ → Type 0
WithoutFunctions rows = (row : ℕ) → row < row_count rows → is_definition rows row ≡ false

-- What holds of every source program without functions that the check accepts, and of the flat list of its translation.
abbrev pub HasFlatForm : List ℤ → List ℤ → Type 0
HasFlatForm header rows =
    source_refusal header rows ≡ (Ok tt) → WithoutFunctions rows → FlatFormOf header rows (kernel_header_of header rows) (flattened (kernel_rows_of header rows))

-- Of one with functions: "the flat list refuses functions with 25 and the first one's row", which in a translation is row 1.
abbrev pub FunctionsRefused : List ℤ → List ℤ → Type 0
FunctionsRefused header rows =
    source_refusal header rows ≡ (Ok tt) → (row : ℕ) → row < row_count rows → is_definition rows row ≡ true
    → plain_refusal (kernel_header_of header rows) (kernel_rows_of header rows) ≡ Err (record { number = 25; place = 1 })
