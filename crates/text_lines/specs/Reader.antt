-- Reader: what the functions that read the numbers of a line answer, in terms of the definitions of lines.
use Rattle.std.specs.Prelude.{◌≡◌, List, [], ◌∷◌, ℕ, suc, ◌≤◌, eqb, ℤ, length, None, Some, Option}
use Rattle.words.specs.Word.{pick}

-- How many bytes stand before the first separator; all, where there is none.
unfoldable pub piece_end : ℕ → List ℕ → ℕ
piece_end separator [] = 0
piece_end separator (byte ∷ bytes) = pick (eqb byte separator) 0 (suc (piece_end separator bytes))

-- How many numbers were read.
abbrev pub number_count : Option (List ℤ) → Option ℕ
number_count None = None
number_count (Some numbers) = Some (length numbers)

abbrev pub numbers_in : Option (List ℤ) → List ℤ
numbers_in None = []
numbers_in (Some numbers) = numbers

-- Numbers were read, and a table has room for them.
pub record Holds (read : Option (List ℤ)) (table : List ℤ) : Type 0 where
  pub well_formed : read ≡ Some (numbers_in read)
  pub room : length (numbers_in read) ≤ length table
