-- Parts: what is known of two programs before their rows are written as one, from their checks.
use Rattle.std.specs.Prelude.{◌≡◌, true, false, List, ℕ, ◌<◌, ◌≤◌, ℤ}
use Rattle.words.specs.Table.{row_count, number_at}
use Rattle.words.specs.Kinds.{sort_at}
use Rattle.check_structure.specs.Structured.{Tree}
use Rattle.check_function_causes.specs.Functions.{is_definition}
use Rattle.join.specs.Moved.{numbers_function}

-- Numbers of functions are numbers of rows.
abbrev pub FunctionNumbers : List ℤ → Type 0
FunctionNumbers rows = (row field : ℕ) → row < row_count rows → field < 6 → numbers_function (sort_at rows row field) ≡ true → number_at rows row field ≤ 2048

-- Two trees of rows, of a source program each.
pub record Parts (first second : List ℤ) : Type 0 where
  pub tree_first : Tree first
  pub tree_second : Tree second
  pub few_first : row_count first ≤ 2048
  pub few_second : row_count second ≤ 2048
  -- row 0 defines no function, and numbers of functions are below those of rows
  pub root_first : is_definition first 0 ≡ false
  pub root_second : is_definition second 0 ≡ false
  pub numbers_first : FunctionNumbers first
  pub numbers_second : FunctionNumbers second
