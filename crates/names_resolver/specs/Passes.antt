-- Passes: what the passes over a table leave.
use Rattle.std.specs.Prelude.{ℕ, ◌≤◌, List, ℤ}
use Rattle.words.specs.Table.{row_count}
use Rattle.check_structure.specs.Structured.{Tree}
use Rattle.check_structure.specs.Passes.{Notes}
use Rattle.check_function_causes.specs.Functions.{function_around}
use Rattle.names.specs.Names.{scope_at}
use Rattle.words.specs.Declarations.{declarations_before}

-- The scope of every row, the function that it stands in, and how many declarations stand before it.
pub record Scanned (rows : List ℤ) (scopes around counts : List ℕ) : Type 0 where
  pub tree : Tree rows
  pub few : row_count rows ≤ 2048
  pub scoped : Notes rows (scope_at rows) scopes
  pub standing : Notes rows (function_around rows) around
  pub counted : Notes rows (declarations_before rows) counts
