-- Writer: how many bytes the words of lines take.
use Rattle.std.specs.Prelude.{◌≡◌, List, [], ◌∷◌, ℕ, ◌+◌, ◌*◌, ◌≤◌, ℤ, length}
use Rattle.text_numbers.specs.Number.{number_bytes}

-- Each number takes its bytes and one more, a tab or a newline.
unfoldable pub bytes_of : List ℤ → ℕ
bytes_of [] = 0
bytes_of (number ∷ numbers) = length (number_bytes number) + 1 + bytes_of numbers

-- How many bytes words of 32 bits take: no more than twelve each.
pub record Measured (words : List ℤ) (size : ℕ) : Type 0 where
  pub sum : size ≡ bytes_of words
  pub most : size ≤ 12 * length words
