-- Standings: what is noted of a program's rows before they are written into a join, and where they stand there.
use Rattle.std.specs.Prelude.{◌≡◌, Bool, not, List, ℕ, ◌<◌, ◌≤◌, ℤ}
use Rattle.words.specs.Word.{pick}
use Rattle.words.specs.Table.{row_count}
use Rattle.check_structure.specs.Structured.{Tree}
use Rattle.check_structure.specs.Passes.{Notes}
use Rattle.check_function_causes.specs.Functions.{function_around}
use Rattle.join.specs.Join.{is_of_definition, is_other, before, definition_rows, first_item, Placement, first_placement, second_placement}
use Rattle.join_rows.specs.Parts.{FunctionNumbers}
use Rattle.join_rows.specs.declared.Standing.{Standing}

-- How many rows of its part come before a row.
unfoldable pub rank_of : List ℤ → ℕ → ℕ
rank_of rows row = pick (is_of_definition rows row) (before (is_of_definition rows) row) (before (is_other rows) row)

-- A row is chosen: those of definitions, or the others.
abbrev pub chosen_of : Bool → Bool → Bool
chosen_of definitions is_of_definition = pick definitions is_of_definition (not is_of_definition)

-- The rows of a part.
abbrev pub part : Bool → List ℤ → ℕ → Bool
part definitions rows row = chosen_of definitions (is_of_definition rows row)

abbrev pub placement_of : Standing → Placement
placement_of s = record { definitions = s.definitions; others = s.others; functions = s.functions; behind = s.behind; after = s.after }

-- All is noted that the words of the new rows ask: the function that each row stands in, its place in its part, and the first item behind the definitions.
-- Every number fits a word.
pub record Ready (rows : List ℤ) (around ranks : List ℕ) (standing : Standing) : Type 0 where
  pub tree : Tree rows
  pub stands : Notes rows (function_around rows) around
  pub ranked : Notes rows (rank_of rows) ranks
  pub item_is : standing.item ≡ first_item rows
  pub item_inside : standing.item < row_count rows
  pub few : row_count rows ≤ 2048
  pub small : (standing.definitions ≤ 4097) × (standing.others ≤ 8192) × (standing.functions ≤ 2048) × (standing.behind < 65536) × (standing.after < 65536)
  pub numbers : FunctionNumbers rows

-- What is noted of a program's rows by itself.
pub record Noted (rows : List ℤ) (around ranks : List ℕ) (definitions : ℕ) : Type 0 where
  pub stands : Notes rows (function_around rows) around
  pub ranked : Notes rows (rank_of rows) ranks
  pub definitions_are : definitions ≡ definition_rows rows

-- Both programs stand where they stand in their join.
pub record Standings (first second : List ℤ) (of_first of_second : Standing) : Type 0 where
  pub first_is : placement_of of_first ≡ first_placement first second
  pub second_is : placement_of of_second ≡ second_placement first second
