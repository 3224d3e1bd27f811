-- Plain kernel programs: the legal ones without functions.
use Rattle.std.specs.Prelude.{◌≡◌, false, List, ℕ, ◌<◌, ℤ}
use Rattle.words.specs.Table.{row_count}
use Rattle.check_function_causes.specs.Functions.{is_definition}
use Rattle.check_kernel.specs.Legal.{Legal}

pub record Plain (header rows : List ℤ) : Type 0 where
  pub legal : Legal header rows
  pub no_definition : (row : ℕ) → row < row_count rows → is_definition rows row ≡ false
