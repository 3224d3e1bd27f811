-- Kernel forms: the kernel header and rows of a source program, and what holds of them.
use Rattle.std.specs.Prelude.{◌≡◌, List, ◌+◌, ◌*◌, ◌≤◌, ℤ, Ok}
use Rattle.words.specs.Table.{row_count}
use Rattle.words.specs.Declarations.{declaration_count}
use Rattle.words.specs.Layout.{layout_of, store_words, temporaries_of}
use Rattle.words.specs.declared.Form.TheVariants.{Source, Kernel}
use Rattle.language.specs.Trees.{block}
use Rattle.language.specs.Decode.{decode}
use Rattle.language.specs.Program.{contents}
use Rattle.language_programs.specs.Program.{resolved_rows}
use Rattle.translation.specs.Translate.{translate, temporaries, kernel_header}
use Rattle.translation.specs.Copies.{statement_copies, own_copies, own_results, program_total}
use Rattle.language_emission.specs.Emission.{emit}
use Rattle.check_source.specs.Refusal.{refusal as source_refusal}
use Rattle.check_kernel.specs.Refusal.{refusal as kernel_refusal}
use Rattle.language.specs.FunctionWrites.{functions_write}
use Rattle.translation_fate.specs.Fate.{ShareFate}
use Rattle.translation_fate.specs.SameWrites.{WriteAlike}
use Rattle.translation_fate.specs.Views.{HidesTemporaries}

-- The rewriting of docs/REWRITING.md, written out, of the table whose names are store words: V, D, T, the array lengths; and the rows of the
-- translation: "The kernel names them S to S+D−1 .. and temporaries begin at S+D".
unfoldable pub kernel_header_of : List ℤ → List ℤ → List ℤ
kernel_header_of header rows = kernel_header (layout_of Source header) (declaration_count rows) (temporaries (contents (resolved_rows Source header rows)))

unfoldable pub kernel_rows_of : List ℤ → List ℤ → List ℤ
kernel_rows_of header rows = emit (block (translate (store_words Source header rows) (contents (resolved_rows Source header rows))))

-- What a kernel header and kernel rows have to be for a source program.
pub record KernelFormOf (header rows kernel_header kernel_rows : List ℤ) : Type 0 where
  -- Demand 2: "The translation of an accepted program is a legal kernel program."
  pub accepted : kernel_refusal kernel_header kernel_rows ≡ Ok tt
  -- Demand 3.
  pub share_fate : ShareFate header rows kernel_header kernel_rows
  -- Change 14: the same writes, also where the runs never end.
  pub write_alike : WriteAlike header rows kernel_header kernel_rows
  -- Change 9: what stands in the temporaries at the start does not show.
  pub hides_temporaries : HidesTemporaries kernel_header kernel_rows
  -- "From n source rows come at most 20×n+20 kernel rows and at most 4×n temporaries."
  pub few_rows : row_count kernel_rows ≤ 20 * row_count rows + 20
  pub few_temporaries : temporaries_of Kernel kernel_header ≤ 4 * row_count rows
  -- Change 1: "A variable used as an operand, index, test or selector is copied only if something evaluated after it, and before its use,
  -- can write that variable": the kernel's statements that move a variable into a temporary are those copies and the results.
  pub copies_allowed : statement_copies (store_words Source header rows) (decode kernel_rows)
      ≡ program_total (own_copies (functions_write (contents (resolved_rows Source header rows)))) (contents (resolved_rows Source header rows))
      + program_total (own_results (functions_write (contents (resolved_rows Source header rows)))) (contents (resolved_rows Source header rows))

-- What holds of every source program that the check accepts.
abbrev pub HasKernelForm : List ℤ → List ℤ → Type 0
HasKernelForm header rows = source_refusal header rows ≡ Ok tt → KernelFormOf header rows (kernel_header_of header rows) (kernel_rows_of header rows)
