-- Stacks: what the lines that are done leave, as the code holds it, and what is known of a page whose rows were counted.
use Rattle.std.specs.Prelude.{◌≡◌, List, ℕ, ◌+◌, ◌*◌, ◌≤◌, ℤ, length}
use Rattle.page.specs.declared.Sizes.{Sizes}
use Rattle.page_words.specs.declared.Names.{Names}
use Rattle.page_blocks.specs.Scans.{lines_in}
use Rattle.page_blocks.specs.LinesFit.{lines_rows, AllFit}
use Rattle.page_scan.specs.Stacks.{stack_of}
use Rattle.page_rows.specs.Rows.{Left}
use Rattle.page_rows.specs.Fits.{SmallSizes}
use Rattle.page_reader.specs.declared.waiting.Pending.{Pending}

-- What lines leave, the rows that wait in an array.
abbrev pub left_in : Pending → List ℕ → Left
left_in pending waiting = record { follows = pending.follows; waiting = stack_of pending.depth waiting }

-- The rows of a page were counted, few enough, and the table has room for them.
pub record Counted (names : Names) (sizes : Sizes) (page : List ℕ) (total : ℕ) (rows : List ℤ) : Type 0 where
  pub few_variables : names.variables ≤ 256
  pub few_behind : names.declared + names.temporaries ≤ 8256
  pub few_arrays : names.arrays ≤ 32
  pub small_sizes : SmallSizes sizes
  pub fit : AllFit names (lines_in names page)
  pub all : total ≡ 1 + lines_rows (lines_in names page)
  pub few : total ≤ 40980
  pub room : 6 * total ≤ length rows
