-- Which arrays an expression can write an element of. Change 7: it has "an element of that array .. as the place of a kind 21 to 30".
-- Twice, as crate language says it of variables: as a relation in those words, and as a test.
use Rattle.std.specs.Prelude.{Bool, false, ◌||◌, ℕ, eqb}
use Rattle.language.specs.Trees.{Expression, constant, read, minus, not, binary, and, or, comma, conditional, assign, compound, prefix, postfix, call, Place, variable, element, Arguments, no_more, ◌also◌}
use Rattle.language.specs.Writes.{Stores, Operand}

-- In its own row, or in a row below it.
pub data HasElementAsPlace (array : ℕ) : Expression → Type 0 where
  at_row : {index e : Expression} → Stores (element array index) e → HasElementAsPlace array e
  below : {d e : Expression} → Operand d e → HasElementAsPlace array d → HasElementAsPlace array e

-- Whether a place is an element of the array n.
abbrev pub is_element : Place → ℕ → Bool
is_element (variable j) n = false
is_element (element array e) n = eqb array n

unfoldable mutual
  -- Whether an expression can write an element of the array.
  pub writes_array : Expression → ℕ → Bool
  writes_array (constant v) n = false
  writes_array (read p) n = index_writes_array p n
  writes_array (minus e) n = writes_array e n
  writes_array (not e) n = writes_array e n
  writes_array (binary operator a b) n = writes_array a n || writes_array b n
  writes_array (and a b) n = writes_array a n || writes_array b n
  writes_array (or a b) n = writes_array a n || writes_array b n
  writes_array (comma a b) n = writes_array a n || writes_array b n
  writes_array (conditional c a b) n = writes_array c n || (writes_array a n || writes_array b n)
  writes_array (assign p e) n = is_element p n || (index_writes_array p n || writes_array e n)
  writes_array (compound operator p e) n = is_element p n || (index_writes_array p n || writes_array e n)
  writes_array (prefix operator p) n = is_element p n || index_writes_array p n
  writes_array (postfix operator p) n = is_element p n || index_writes_array p n
  -- what the function writes is written by its own rows
  writes_array (call f arguments) n = arguments_write_array arguments n

  -- Whether the index of a place can.
  pub index_writes_array : Place → ℕ → Bool
  index_writes_array (variable j) n = false
  index_writes_array (element array e) n = writes_array e n

  -- Whether one of the arguments can.
  pub arguments_write_array : Arguments → ℕ → Bool
  arguments_write_array no_more n = false
  arguments_write_array (e also arguments) n = writes_array e n || arguments_write_array arguments n

-- What an update of a place writes: an element of the array that it is of, and what its index writes.
abbrev pub place_writes_array : Place → ℕ → Bool
place_writes_array p n = is_element p n || index_writes_array p n
