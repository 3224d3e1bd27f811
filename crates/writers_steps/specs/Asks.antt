-- Asks: what the leaves ask of their caller, and what they find of atoms and places.
use Rattle.std.specs.Prelude.{◌≡◌, Bool, false, List, ℕ, ◌*◌, ◌-◌, ◌≤◌, ◌<◌, ℤ}
use Rattle.words.specs.Table.{row_count}
use Rattle.language.specs.Trees.{Expression, variable, element}
use Rattle.language.specs.Writes.{writes, index_writes}
use Rattle.language.specs.Decode.{place_of, expression_at}
use Rattle.translation.specs.Uses.{direct}
use Rattle.translation.specs.declared.Use.{Use}
use Rattle.translation.specs.Translate.{atom_of, atom, target_word, kernel_place, expression_levels}
use Rattle.translation.specs.TranslateSize.{index_rows as index_rows_of, store_rows, copied, own_rows}
use Rattle.translation.specs.Holding.{held_by}
use Rattle.measures_table.specs.Parts.{called_in, first_copied, UseFits}
use Rattle.measures_table.specs.Measures.{Measured}
use Rattle.language_shapes.specs.Functions.{is_call}
use Rattle.language_shapes.specs.Source.{most_words, most_arrays}
use Rattle.language_shapes.specs.Shapes.{place_tree as place_shape_tree}
use Rattle.language_shapes.specs.declared.PlaceShape.{PlaceShape}
use Rattle.language_shapes.specs.declared.PlaceShape.TheVariants.{Variable as VariableShape, Element as ElementShape}
use Rattle.writers_rows.specs.Room.{Room}
use Rattle.writers_rows.specs.Atoms.{atom_tree, place_tree, AtomFits, PlaceFits}
use Rattle.writers_rows.specs.declared.KernelAtom.{KernelAtom}
use Rattle.writers_rows.specs.declared.KernelPlace.{KernelPlace}
use Rattle.writers_steps.specs.declared.WriteSource.{WriteSource}

-- The source is measured; the temporaries begin at store word S.
pub record Writing (rows : List ℤ) (table : List ℕ) (S : ℕ) : Type 0 where
  pub measured : Measured rows table
  -- the words of the source, and the temporaries of what may call
  pub small_store : S ≤ 10304
  -- an expression has no more levels than rows, and each row is linked once
  pub few_levels : (row : ℕ) → row < row_count rows → (u : Use) → expression_levels (called_in rows) (expression_at rows row) u ≤ 2048

abbrev pub Writes : WriteSource → Type 0
Writes source = Writing source.rows.now source.table.now source.store

-- The rows of what an expression that chooses and calls nothing does with its operands' values.
abbrev pub straight_size : (ℕ → ℕ → Bool) → Expression → Use → ℕ
straight_size called e u = own_rows called e u - 4 * first_copied called e

pub record StraightAsks (rows : List ℤ) (row : ℕ) (u : Use) (level base words : ℕ) : Type 0 where
  pub inside : row < row_count rows
  pub no_call : is_call (expression_at rows row) ≡ false
  pub level_low : level ≤ 2048
  pub use_fits : UseFits u
  pub room : Room (straight_size (called_in rows) (expression_at rows row) u) base words

-- The word where an element's value or an operation's result goes.
pub record TargetIs (S : ℕ) (u : Use) (t r : ℕ) : Type 0 where
  pub is : r ≡ target_word S u t
  pub fits : r < 65536

-- ---- atoms and places

-- The atom of the expression at a row, worked out at level t.
pub record AtomAt (S : ℕ) (rows : List ℤ) (row t : ℕ) (x : KernelAtom) : Type 0 where
  pub is : atom_tree x ≡ atom S t (atom_of (called_in rows) (expression_at rows row))
  pub fits : AtomFits x

-- The atom of a value that waits, which was copied where `copies` is 1.
pub record HeldAt (S : ℕ) (rows : List ℤ) (row copies t : ℕ) (x : KernelAtom) : Type 0 where
  pub is : atom_tree x ≡ atom S t (held_by copies (atom_of (called_in rows) (expression_at rows row)))
  pub fits : AtomFits x

-- The numbers and the index row of a place are inside.
abbrev pub PlaceInside : List ℤ → PlaceShape → Type 0
PlaceInside rows (VariableShape i) = i < most_words
PlaceInside rows (ElementShape array index) = (array < most_arrays) × (index < row_count rows)

-- A place whose index is held at level t.
pub record HeldPlace (S : ℕ) (rows : List ℤ) (place : PlaceShape) (t : ℕ) (p : KernelPlace) : Type 0 where
  pub is : place_tree p ≡ kernel_place (called_in rows) S (place_shape_tree rows place) t
  pub fits : PlaceFits p

-- The place at a row, its index held at level t.
pub record PlaceAt (S : ℕ) (rows : List ℤ) (row t : ℕ) (p : KernelPlace) : Type 0 where
  pub is : place_tree p ≡ kernel_place (called_in rows) S (place_of (expression_at rows row)) t
  pub fits : PlaceFits p

-- ---- what ends the code of an expression

pub record ReadAsks (source : WriteSource) (place : PlaceShape) (u : Use) (level base words : ℕ) : Type 0 where
  pub writing : Writes source
  pub place_inside : PlaceInside source.rows.now place
  pub level_low : level ≤ 2048
  pub use_fits : UseFits u
  pub room : Room (5 * index_rows_of (place_shape_tree source.rows.now place)) base words

-- `copies` is 1 where the value of the first operand was copied.
pub record AssignmentAsks (source : WriteSource) (place value copies level base words : ℕ) : Type 0 where
  pub writing : Writes source
  pub place_inside : place < row_count source.rows.now
  pub value_inside : value < row_count source.rows.now
  pub copies_are : copies ≡ copied (atom_of (called_in source.rows.now) (expression_at source.rows.now value)) (index_writes (called_in source.rows.now) (place_of (expression_at source.rows.now place)))
  pub level_low : level ≤ 2048
  pub room : Room (store_rows (place_of (expression_at source.rows.now place)) (direct (expression_at source.rows.now value))) base words

pub record VariableAsks (source : WriteSource) (i value level base words : ℕ) : Type 0 where
  pub writing : Writes source
  pub low : i < most_words
  pub value_inside : value < row_count source.rows.now
  pub level_low : level ≤ 2048
  pub room : Room (store_rows (variable i) (direct (expression_at source.rows.now value))) base words

pub record ElementAsks (source : WriteSource) (array index value copies level base words : ℕ) : Type 0 where
  pub writing : Writes source
  pub low : array < most_arrays
  pub index_inside : index < row_count source.rows.now
  pub value_inside : value < row_count source.rows.now
  pub copies_are : copies ≡ copied (atom_of (called_in source.rows.now) (expression_at source.rows.now value)) (index_writes (called_in source.rows.now) (element array (expression_at source.rows.now index)))
  pub level_low : level ≤ 2048
  pub room : Room 5 base words

-- An operation on a place, of so many rows.
pub record OperationAsks (source : WriteSource) (place size level base words : ℕ) : Type 0 where
  pub writing : Writes source
  pub place_inside : place < row_count source.rows.now
  pub level_low : level ≤ 2048
  pub room : Room size base words

pub record OperatorAsks (source : WriteSource) (left right copies : ℕ) (u : Use) (level base words : ℕ) : Type 0 where
  pub writing : Writes source
  pub left_inside : left < row_count source.rows.now
  pub right_inside : right < row_count source.rows.now
  pub copies_are : copies ≡ copied (atom_of (called_in source.rows.now) (expression_at source.rows.now right)) (writes (called_in source.rows.now) (expression_at source.rows.now left))
  pub use_fits : UseFits u
  pub level_low : level ≤ 2048
  pub room : Room 6 base words
