-- Tables: "rows of six 32-bit signed words: kind, a, b, c, d, next. Rows are numbered from 0."
use Rattle.std.specs.Prelude.{◌≡◌, List, ℕ, ◌+◌, ◌*◌, ◌/◌, ℤ, pos, length, get_or}
use Rattle.words.specs.Word.{natural}

abbrev pub row_count : List ℤ → ℕ
row_count rows = length rows / 6

-- The table has whole rows.
abbrev pub Whole : List ℤ → Type 0
Whole rows = length rows ≡ 6 * row_count rows

-- The field of a row: 0 is the kind, 1 to 4 are a to d, 5 is next. Beyond the table every word is 0.
unfoldable pub word_at : List ℤ → ℕ → ℕ → ℤ
word_at rows row field = get_or rows (6 * row + field) (pos 0)

-- The number that it names.
unfoldable pub number_at : List ℤ → ℕ → ℕ → ℕ
number_at rows row field = natural (word_at rows row field)
