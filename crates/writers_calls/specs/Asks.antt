-- Asks: what the writers of calls ask of their caller, and what they find of arguments.
use Rattle.std.specs.Prelude.{◌≡◌, List, ℕ, ◌+◌, ◌*◌, ◌≤◌, ◌<◌, ℤ}
use Rattle.words.specs.Table.{row_count, number_at}
use Rattle.language.specs.Trees.{call, ◌also◌}
use Rattle.language.specs.Calls.{argument_count}
use Rattle.language.specs.Decode.{expression_at, argument_list_at}
use Rattle.language_shapes.specs.Shapes.{Onward, OptionalOnward}
use Rattle.measures_table.specs.Parts.{called_in}
use Rattle.writers_rows.specs.Room.{Room}
use Rattle.writers_calls.specs.Arguments.{taken_by}
use Rattle.writers_calls.specs.Ranks.{rank}
use Rattle.writers_calls.specs.declared.CallRow.{CallRow}

-- The call at a row.
pub record CallAt (rows : List ℤ) (row : ℕ) (r : CallRow) : Type 0 where
  pub is : expression_at rows row ≡ call r.function (argument_list_at rows r.first)
  pub onward : OptionalOnward rows row r.first

-- The argument at a link: the expression at the row e, and the arguments behind it.
pub record Passing (rows : List ℤ) (argument e : ℕ) : Type 0 where
  pub some : 0 < argument
  pub is : argument_list_at rows argument ≡ expression_at rows e also argument_list_at rows (number_at rows argument 5)
  pub onward : Onward rows argument e
  pub behind : OptionalOnward rows argument (number_at rows argument 5)

-- How many arguments there are from a link on.
pub record CountIs (rows : List ℤ) (argument r : ℕ) : Type 0 where
  pub is : r ≡ argument_count (argument_list_at rows argument)
  pub low : r ≤ rank rows argument

-- The temporaries that the arguments from a link on take.
pub record TakenIs (rows : List ℤ) (argument copies r : ℕ) : Type 0 where
  pub is : r ≡ taken_by (called_in rows) (argument_list_at rows argument) copies
  pub low : r ≤ rank rows argument

-- What holds the arguments from a link on, in `size` rows.
pub record AtomsAsk (rows : List ℤ) (argument copies level size base words : ℕ) : Type 0 where
  pub inside : argument < row_count rows
  pub size_is : size ≡ 2 * argument_count (argument_list_at rows argument)
  pub level_low : level + taken_by (called_in rows) (argument_list_at rows argument) copies ≤ 4096
  pub room : Room size base words

-- A call of `size` rows.
pub record CallAsks (rows : List ℤ) (number function first copies level size base words : ℕ) : Type 0 where
  pub inside : first < row_count rows
  pub number_low : number < 65536
  pub function_low : function < 65536
  pub size_is : size ≡ 4 + 2 * argument_count (argument_list_at rows first)
  pub level_low : level + taken_by (called_in rows) (argument_list_at rows first) copies ≤ 4096
  pub room : Room size base words
