-- Searches: the lowest number, or the lowest row, with a property.
use Rattle.std.specs.Prelude.{Bool, true, false, List, ℕ, zero, suc, ◌+◌, ℤ, None, Option, Some}
use Rattle.words.specs.Word.{pick}
use Rattle.words.specs.Table.{row_count}

-- The lowest of the `count` numbers from `from` on that has the property.
unfoldable pub lowest : (ℕ → Bool) → ℕ → ℕ → Option ℕ
lowest property from zero = None
lowest property from (suc count) = let rest = lowest property (from + 1) count in pick (property from) (Some from) rest

-- One of the `count` numbers from `from` on has the property.
unfoldable pub some : (ℕ → Bool) → ℕ → ℕ → Bool
some property from zero = false
some property from (suc count) = let rest = some property (from + 1) count in pick (property from) true rest

-- ".. then the lowest row."
unfoldable pub lowest_row : List ℤ → (ℕ → Bool) → Option ℕ
lowest_row rows property = lowest property 0 (row_count rows)

-- One of a row's six fields has the property.
unfoldable pub some_field : (ℕ → Bool) → Bool
some_field property = some property 0 6
