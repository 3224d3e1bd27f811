-- Flat words: the flat list of a kernel program as a table of words, and what it is for the two to share their fate.
use Rattle.std.specs.Prelude.{◌≡◌, ◌↔◌, List, [], ◌∷◌, ◌++◌, ℕ, suc, ℤ}
use Rattle.words.specs.declared.Form.TheVariants.{Kernel}
use Rattle.words.specs.declared.Ending.TheVariants.{Spent}
use Rattle.language.specs.Program.{Finished, contents, run_table}
use Rattle.flat.specs.Lines.{FlatLine}
use Rattle.flat.specs.Words.{line_parts, five_words}
use Rattle.flat.specs.Results.{run_list}
use Rattle.flat_fate.specs.Addresses.{flat_of}

-- The words of lines from line i on.
unfoldable pub words_from : ℕ → List FlatLine → List ℤ
words_from i [] = []
words_from i (x ∷ xs) = five_words (line_parts i x) ++ words_from (suc i) xs

-- The flat list of a kernel program.
unfoldable pub flattened : List ℤ → List ℤ
flattened rows = words_from 0 (flat_of (contents rows))

-- A kernel program and a flat list with one header, "on equal stores".
module _ (header rows list store : List ℤ) where
  abbrev pub kernel_run : ℕ → Finished
  kernel_run budget = run_table Kernel header rows budget store

  abbrev pub flat_run : ℕ → Finished
  flat_run budget = run_list header list budget store

  pub record KernelEnds : Type 0 where
    pub budget : ℕ
    pub ends : (kernel_run budget).ending ≡ Spent → ⊥

  pub record FlatEnds : Type 0 where
    pub budget : ℕ
    pub ends : (flat_run budget).ending ≡ Spent → ⊥

  pub record SharedFate : Type 0 where
    -- "With no limit on steps, a flat run and the kernel run .. both end or neither does;"
    pub end-together : KernelEnds ↔ FlatEnds
    -- for budgets that are enough: "if they end, ending"
    pub same_ending : (b d : ℕ) → ((kernel_run b).ending ≡ Spent → ⊥) → ((flat_run d).ending ≡ Spent → ⊥) → (flat_run d).ending ≡ (kernel_run b).ending
    -- "and every store word agree."
    pub same_store : (b d : ℕ) → ((kernel_run b).ending ≡ Spent → ⊥) → ((flat_run d).ending ≡ Spent → ⊥) → (flat_run d).store ≡ (kernel_run b).store
