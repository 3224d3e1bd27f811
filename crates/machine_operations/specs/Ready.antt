-- Ready: what the code asks of a table, a row and a store.
use Rattle.std.specs.Prelude.{◌≡◌, true, List, ℕ, ◌+◌, ◌<◌, ◌≤◌, ℤ, length, get_or}
use Rattle.words.specs.Table.{row_count}
use Rattle.words.specs.Kinds.{kind_at, is_place_kind}
use Rattle.words.specs.declared.Kind.{Kind}
use Rattle.language.specs.Functions.{function_count}
use Rattle.language.specs.Program.{contents}
use Rattle.language.specs.Sound.{Sound}
use Rattle.machine_operations.specs.Bounds.{bounds_of, array_bounds, layout_in}
use Rattle.machine_operations.specs.Functions.{SoundCalls, FunctionRows}

-- An array's own bound and the next one are in the list, in order, and small.
pub record Bounded (bounds : List ℕ) (array : ℕ) : Type 0 where
  pub inside : array + 1 < length bounds
  pub ordered : get_or bounds array 0 ≤ get_or bounds (array + 1) 0
  pub small : get_or bounds (array + 1) 0 < 65536

-- A sound table with sound calls, the list of a run of it, and a store of so many words.
pub record Setting (rows : List ℤ) (bounds : List ℕ) (words : ℕ) : Type 0 where
  pub sound : Sound rows (layout_in rows bounds) words
  pub bounds_are : array_bounds (function_count (contents rows)) bounds ≡ bounds_of (layout_in rows bounds)
  pub functions : FunctionRows rows bounds
  pub few_words : words < 65536
  pub few_rows : row_count rows < 65536
  pub few_arrays : length (layout_in rows bounds).lengths ≤ 32
  pub calls : SoundCalls rows

-- The row is one of the table.
pub record Ready (rows : List ℤ) (bounds : List ℕ) (words row : ℕ) : Type 0 where
  pub setting : Setting rows bounds words
  pub below : row < row_count rows

-- And it is a place.
pub record ReadyPlace (rows : List ℤ) (bounds : List ℕ) (words row : ℕ) : Type 0 where
  pub ready : Ready rows bounds words row
  pub place_is : is_place_kind (kind_at rows row) ≡ true

-- The row is of this kind, and was entered.
pub record Entered (rows : List ℤ) (bounds : List ℕ) (words row : ℕ) (kind : Kind) : Type 0 where
  pub ready : Ready rows bounds words row
  pub kind_is : kind_at rows row ≡ kind
