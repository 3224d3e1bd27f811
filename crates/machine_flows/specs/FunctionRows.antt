-- FunctionRows: what the walks along the definitions of a table ask, and what a list of the functions' rows has.
use Rattle.std.specs.Prelude.{Bool, ◌&&◌, List, ℕ, ◌<◌, ltb, eqb, ℤ}
use Rattle.words.specs.Table.{number_at}
use Rattle.language.specs.Functions.{function_count}
use Rattle.language.specs.Calls.{Numbered, DefinitionsFirst}
use Rattle.language.specs.Program.{contents}
use Rattle.machine_operations.specs.Bounds.{function_row_in}
use Rattle.machine_operations.specs.Functions.{FunctionAt}
use Rattle.machine_flows.specs.Lists.{InTable}

-- "Definitions come first in row 0's list, numbered from 0 in order."
pub record InOrder (rows : List ℤ) : Type 0 where
  pub table : InTable rows 0
  pub numbered : Numbered 0 (contents rows)
  pub in_front : DefinitionsFirst (contents rows)

-- Whether a definition stands at the row; at 0 there is none.
unfoldable pub is_defined : List ℤ → ℕ → Bool
is_defined rows row = ltb 0 row && eqb (number_at rows row 0) 59

-- The list has the row of each function at its place.
abbrev pub RowsOfFunctions : List ℤ → List ℕ → Type 0
RowsOfFunctions rows list = (f : ℕ) → f < function_count (contents rows) → FunctionAt rows f (function_row_in list f)
