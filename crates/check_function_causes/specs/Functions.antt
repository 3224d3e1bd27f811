-- Functions: Change 13. The rows of definitions, calls and returns; the definition that a number means, the function that a row stands in,
-- and how many rows a list has.
use Rattle.std.specs.Prelude.{Bool, ◌||◌, List, ℕ, zero, suc, eqb, ℤ}
use Rattle.words.specs.Word.{pick}
use Rattle.words.specs.Table.{row_count, number_at}
use Rattle.words.specs.Links.{link, note}
use Rattle.words.specs.Search.{some}
unfoldable pub use Rattle.words_roles.specs.Roles.{is_definition}

-- "Kind 31, an expression, calls", "Kind 60 returns". The rows that define functions are told by words_roles.
unfoldable pub is_call : List ℤ → ℕ → Bool
is_call rows row = eqb (number_at rows row 0) 31

unfoldable pub is_return : List ℤ → ℕ → Bool
is_return rows row = eqb (number_at rows row 0) 60

unfoldable pub is_of_functions : List ℤ → ℕ → Bool
is_of_functions rows row = is_definition rows row || (is_call rows row || is_return rows row)

unfoldable pub has_functions : List ℤ → Bool
has_functions rows = some (is_of_functions rows) 0 (row_count rows)

-- ---- the definitions at the front

-- The definition so many places behind this row, where the run of definitions from this row on goes so far; else 0. Row 0 is a block.
unfoldable pub definition_from : ℕ → List ℤ → ℕ → ℕ
definition_from zero rows row = pick (is_definition rows row) row 0
definition_from (suc places) rows row =
    let behind = definition_from places rows (link rows row 5) in
    pick (is_definition rows row) behind 0

-- "Definitions come first in row 0's list, numbered from 0 in order": the definition with this number; 0 where there is none.
unfoldable pub function_at : List ℤ → ℕ → ℕ
function_at rows number = definition_from number rows (link rows 0 1)

-- ---- inside a function

-- A definition hands itself to its parts; every other row hands on what it has, and so does a definition to its next item.
unfoldable pub around_of : List ℤ → ℕ → ℕ → ℕ → ℕ
around_of rows owner field own = pick (eqb field 5) own (pick (is_definition rows owner) owner own)

-- The definition of the function that a row stands in; 0 where it stands in none.
unfoldable pub function_around : List ℤ → ℕ → ℕ
function_around rows row = note (around_of rows) 0 rows row

-- ---- lists of arguments, and of parameters

-- How many rows a list has from this row on, of so many at most; row 0 stands for its end.
unfoldable pub rows_from : ℕ → List ℤ → ℕ → ℕ
rows_from zero rows row = 0
rows_from (suc most) rows row =
    let rest = rows_from most rows (link rows row 5) in
    pick (eqb row 0) 0 (suc rest)

-- Links lead to later rows, so as many as there are rows are enough.
unfoldable pub list_length : List ℤ → ℕ → ℕ
list_length rows row = rows_from (row_count rows) rows row
