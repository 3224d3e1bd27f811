-- Joinable: what is known of two programs before their joined rows are looked at, from their checks.
use Rattle.std.specs.Prelude.{List, ◌+◌, ◌≤◌, ℤ}
use Rattle.words.specs.Table.{row_count}
use Rattle.check_structure.specs.Structured.{Tree}
use Rattle.join.specs.Join.{joined_rows}
use Rattle.join_rows.specs.Parts.{Parts}

-- Together they are few enough, and their join is a tree of rows.
pub record Joinable (first second : List ℤ) : Type 0 where
  pub parts : Parts first second
  pub few : 1 + row_count first + row_count second ≤ 2048
  pub tree : Tree (joined_rows first second)
