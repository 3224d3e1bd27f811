-- Steps: what the code's answer for a line says, and what it asks of a list, a line and a store.
use Rattle.std.specs.Prelude.{◌≡◌, Bool, true, false, List, ℕ, ◌+◌, ◌*◌, ◌<◌, ◌≤◌, ℤ, length, Err, Ok, Result}
use Rattle.words.specs.declared.FaultSort.{FaultSort}
use Rattle.words.specs.Word.{natural}
use Rattle.words.specs.Layout.{store_size}
use Rattle.check_fields.specs.Fields.{bounds_in}
use Rattle.check_fields.specs.declared.NumberRange.{NumberRange}
use Rattle.machine_operations.specs.Bounds.{bounds_of, layout_from}
use Rattle.flat.specs.Lines.{Next, goes, faults, ends}
use Rattle.flat.specs.Words.{line_count, field_at, operation_at, kind_of, left_constant, line_at}
use Rattle.flat.specs.Refusal.{lands_inside}
use Rattle.flat.specs.Legal.{Within}
use Rattle.flat.specs.LineKinds.{LineKind}

-- A line made with the store `before` was answered so, and left the store `after`: a fault leaves it as it was.
abbrev pub Makes : List ℤ → Result ℕ FaultSort → List ℤ → Next → Type 0
Makes before step after (goes j store) = (step ≡ Ok j) × (after ≡ store)
Makes before step after (faults sort) = (step ≡ Err sort) × (after ≡ before)
Makes before step after ends = ⊥

-- An operand's word; where it is no constant, it names a word of a store of so many.
pub record ReadyOperand (list : List ℤ) (line field : ℕ) (constant : Bool) (words : ℕ) : Type 0 where
  pub inside : 5 * line + field < length list
  pub named : constant ≡ false → natural (field_at list line field) < words
  pub few_words : words < 65536

-- A line whose distance stays in the list.
pub record ReadyJump (list : List ℤ) (line : ℕ) : Type 0 where
  pub inside : line < line_count list
  pub lands : lands_inside line (line_count list) (field_at list line 4) ≡ true

-- A list with the bounds of its layout, and a store of so many words.
pub record Setting (bounds : List ℕ) (list : List ℤ) (words : ℕ) : Type 0 where
  pub bounds_are : bounds ≡ bounds_of (layout_from bounds)
  pub store_fits : store_size (layout_from bounds) ≤ words
  pub few_words : words ≤ 16448
  pub few_arrays : length (layout_from bounds).lengths ≤ 32
  pub known : (line : ℕ) → line < line_count list → LineKind (kind_of (operation_at list line))
  pub small : (line : ℕ) → line < line_count list → operation_at list line < 256
  -- an array's number is no constant
  pub array_left : (line : ℕ) → line < line_count list → kind_of (operation_at list line) ≡ 3 → left_constant (operation_at list line) ≡ false
  pub lands : (line : ℕ) → line < line_count list → lands_inside line (line_count list) (field_at list line 4) ≡ true
  -- the numbers of declarations, which no line names
  pub declared : NumberRange
  pub within : (line : ℕ) → line < line_count list → Within (bounds_in (layout_from bounds) declared words) (line_count list) (line_at list line)

-- The line is one of the list.
pub record ReadyLine (bounds : List ℕ) (list : List ℤ) (words line : ℕ) : Type 0 where
  pub setting : Setting bounds list words
  pub inside : line < line_count list

-- And it has this operation, which is of this kind.
pub record OfKind (bounds : List ℕ) (list : List ℤ) (words line operation kind : ℕ) : Type 0 where
  pub ready : ReadyLine bounds list words line
  pub operation_is : operation ≡ operation_at list line
  pub kind_is : kind_of operation ≡ kind
