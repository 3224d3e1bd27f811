-- Arrays: what the table of arrays holds, a word for each source row: the arrays of which the expression at the row can write an element.
use Rattle.std.specs.Prelude.{◌≡◌, Bool, false, ◌||◌, List, ℕ, zero, suc, ◌≤◌, ◌<◌, ℤ, length, get_or}
use Rattle.std.specs.Int.Bits.{bit_or}
use Rattle.words.specs.Table.{row_count}
use Rattle.language.specs.Decode.{place_of, expression_at}
use Rattle.language_shapes.specs.Source.{Source}
use Rattle.write_sets.specs.Sets.{member_array}
use Rattle.write_sets_programs.specs.ArrayWrites.{writes_array, place_writes_array}
use Rattle.write_sets_programs.specs.declared.Links.{Links}

-- The word holds the arrays A.
pub record ArraysAre (word : ℕ) (A : ℕ → Bool) : Type 0 where
  pub are : (n : ℕ) → member_array word n ≡ A n

-- ---- by a link, of which 0 is absent and writes nothing

-- What the expression writes that it leads to.
abbrev pub link_writes : List ℤ → ℕ → ℕ → Bool
link_writes rows zero n = false
link_writes rows (suc link) n = writes_array (expression_at rows (suc link)) n

-- What an update of the place writes that it leads to.
abbrev pub stored_arrays : List ℤ → ℕ → ℕ → Bool
stored_arrays rows zero n = false
stored_arrays rows (suc link) n = place_writes_array (place_of (expression_at rows (suc link))) n

-- The word of the table that it leads to.
abbrev pub arrays_at : List ℕ → ℕ → ℕ
arrays_at arrays zero = 0
arrays_at arrays (suc link) = get_or arrays (suc link) 0

abbrev pub linked_arrays : List ℕ → Links → ℕ
linked_arrays arrays links = bit_or (arrays_at arrays links.first) (bit_or (arrays_at arrays links.second) (arrays_at arrays links.third))

-- That word is in the table.
abbrev pub LinkHeld : List ℕ → ℕ → Type 0
LinkHeld arrays link = 0 < link → link < length arrays

pub record LinksHeld (arrays : List ℕ) (links : Links) : Type 0 where
  pub first : LinkHeld arrays links.first
  pub second : LinkHeld arrays links.second
  pub third : LinkHeld arrays links.third

-- ---- the table

-- The rows from `least` on have their words.
pub record ArraysFrom (rows : List ℤ) (arrays : List ℕ) (least : ℕ) : Type 0 where
  pub source : Source rows
  pub room : row_count rows ≤ length arrays
  pub row_arrays : (row : ℕ) → least ≤ row → row < row_count rows → ArraysAre (get_or arrays row 0) (writes_array (expression_at rows row))
