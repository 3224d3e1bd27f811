-- Rules that never end: Change 14, about rows and words. Both runs make the same writes, for runs that end, fault or never end alike.
use Rattle.std.specs.Prelude.{◌≡◌, List, ◌++◌, ℕ, ◌*◌, ℤ, length}
use Rattle.words.specs.Table.{row_count}
use Rattle.words.specs.Declarations.{declaration_count}
use Rattle.words.specs.Layout.{layout_of, store_size, temporaries_of}
use Rattle.words.specs.declared.Form.TheVariants.{Source, Kernel}
use Rattle.computation.specs.Run.{steps}
use Rattle.computation.specs.WritesMade.{Stored, made, FirstOf}
use Rattle.language_programs.specs.Program.{run_under}

-- A source program and a kernel program, started on the same variables and arrays; each on declared words of its own, the kernel with these
-- temporaries.
module _ (header rows kernel_header kernel_rows store declared kernelDeclared temporaries : List ℤ) where
  -- "The writes to the first S words, each as place and value, in order", that the run with budget N makes.
  abbrev pub source_writes : ℕ → List Stored
  source_writes N = made (store_size (layout_of Source header)) (run_under (steps N) Source header rows (store ++ declared))

  abbrev pub kernel_writes : ℕ → List Stored
  kernel_writes N = made (store_size (layout_of Source header)) (run_under (steps N) Kernel kernel_header kernel_rows (store ++ (kernelDeclared ++ temporaries)))

  -- "the source makes as its first ones within some number of steps"
  pub record SourceMakes (writes : List Stored) : Type 0 where
    pub within : ℕ
    pub as_first : FirstOf writes (source_writes within)

  pub record SameWrites : Type 0 where
    -- "Whatever writes a source run has made within N steps, its translation makes those as its first ones, within kernel rows × N steps (N at least 1)."
    pub kernel_follows : (N : ℕ) → FirstOf (source_writes N) (kernel_writes (row_count kernel_rows * N))
    -- "Whatever writes the translation has made within N steps, the source makes as its first ones within some number of steps."
    pub source_follows : (N : ℕ) → SourceMakes (kernel_writes N)

-- "Begin both runs as demand 3 does": whatever the variables, the arrays and the temporaries hold, and the declared words in either run.
abbrev pub WriteAlike : List ℤ → List ℤ → List ℤ → List ℤ → Type 0
WriteAlike header rows kernel_header kernel_rows =
    (store declared kernelDeclared temporaries : List ℤ) → length store ≡ store_size (layout_of Source header)
    → length declared ≡ declaration_count rows → length kernelDeclared ≡ declaration_count rows → length temporaries ≡ temporaries_of Kernel kernel_header
    → SameWrites header rows kernel_header kernel_rows store declared kernelDeclared temporaries
