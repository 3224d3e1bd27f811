-- Tables: what the table of measures says of statements, lists and arms whose code is within the limits; and the label of a list's default.
use mathlib.Core.Path.{◌≡◌, refl, ◌∙◌}
use mathlib.Core.List.{List}
use Prim.Native.Nat.{ℕ, zero, suc, ◌+◌, ◌≤◌, ◌<◌}
use native.Mathlib.Omega.{arith}
use lib.IntN.{ℤ}
use Rattle.words.specs.Table.{row_count}
use Rattle.language.specs.Trees.{case, default, label, same_mark, Items, none, ◌then◌, ◌here◌, define}
use Rattle.language.specs.Decode.{statement_at, list_at, arm_list_at}
use Rattle.translation.specs.Translate.{labels, arms_labels, items_labels, label_of}
use Rattle.translation.specs.TranslateSize.{statement_size, arms_size, items_size, cases}
use Rattle.language_shapes.specs.Shapes.{OptionalOnward}
use Rattle.measures_table.specs.Parts.{called_in}
use Rattle.measures_table.specs.Measures.{sums, past_labels, default_place, statement_rows_slot, statement_labels_slot, list_rows_slot, list_cases_slot, list_default_slot, arms_rows_slot, arms_labels_slot, slot, slot_at, SlotAsks, Measured, MeasuredFrom}
use Rattle.measures_table.specs.MeasureLaws.{limited-small, list-rows, list_cases, list-default, arms-rows, arms-labels, slot-asks}

-- ---- the label of a list's default, from its place

-- `place` is 1 + the labels before the default, or 0 where there is none; `answer` is its label, or `other`.
pub record DefaultAt (place answer first other : ℕ) : Type 0 where
  pub absent : place ≡ 0 → answer ≡ other
  pub present : 0 < place → answer + 1 ≡ first + place

past : (place more : ℕ) {answer first other : ℕ} → DefaultAt place answer (first + more) other → DefaultAt (past_labels more place) answer first other
past zero more d = record { absent = λ e. d.absent refl; present = λ h. absurd (omega arith) }
past (suc place) more d = record { absent = λ e. absurd (omega arith); present = λ h. omega (arith, d.present (omega arith)) }

pub default-at : (is : Items) (first other : ℕ) → DefaultAt (default_place is) (label_of default is first other) first other
unfolding default_place label_of same_mark
default-at none first other = record { absent = λ e. refl; present = λ h. absurd (omega arith) }
default-at (s then is) first other = past (default_place is) (labels s) (default-at is (first + labels s) other)
default-at (case v here is) first other = past (default_place is) 1 (default-at is (first + 1) other)
default-at (default here is) first other = record { absent = λ e. absurd (omega arith); present = λ h. refl }
default-at (label l here is) first other = past (default_place is) 1 (default-at is (first + 1) other)
default-at (define f words body is) first other = default-at is first other

past-most : (place more most : ℕ) → place ≤ most → past_labels more place ≤ more + most
past-most zero more most h = omega arith
past-most (suc place) more most h = omega arith

default-most : (is : Items) → default_place is ≤ items_labels is
unfolding default_place items_labels
default-most none = omega arith
default-most (s then is) = past-most (default_place is) (labels s) (items_labels is) (default-most is)
default-most (case v here is) = past-most (default_place is) 1 (items_labels is) (default-most is)
default-most (default here is) = omega arith
default-most (label l here is) = past-most (default_place is) 1 (items_labels is) (default-most is)
default-most (define f words body is) = default-most is

-- A list's default has a label within the limits.
pub default-low : (is : Items) (first other : ℕ) → first + items_labels is ≤ 65535 → other < 65536 → label_of default is first other < 65536
default-low is first other h o = go (default_place is) refl
  where
    go : (place : ℕ) → default_place is ≡ place → label_of default is first other < 65536
    go zero e = omega (arith, (default-at is first other).absent e)
    go (suc place) e = omega (arith, (default-at is first other).present (omega (arith, e)), default-most is)

-- ---- the words of the table

module _ (rows : List ℤ) (table : List ℕ) (measured : Measured rows table) where
  later-measured : MeasuredFrom rows table (0 + 1)
  later-measured = record { source = measured.source; room = measured.room; row_measured = λ row h inside. measured.row_measured row (omega arith) inside }

  as-link : (link : ℕ) → link < row_count rows → OptionalOnward rows 0 link
  as-link link inside h = record { later = h; inside = inside }

  -- What the function that reads a word of a link's row asks.
  pub word-asks : (link k : ℕ) → link < row_count rows → k < sums → SlotAsks table link k
  word-asks link k inside h = slot-asks later-measured (as-link link inside) k h

  pub statement-rows : (row : ℕ) → row < row_count rows → statement_size (called_in rows) (statement_at rows row) ≤ 40980 → slot table row statement_rows_slot ≡ statement_size (called_in rows) (statement_at rows row)
  statement-rows row inside h = (measured.row_measured row (omega arith) inside).statement.rows_are ∙ limited-small _ (omega arith)

  pub statement-labels : (row : ℕ) → row < row_count rows → labels (statement_at rows row) ≤ 65535 → slot table row statement_labels_slot ≡ labels (statement_at rows row)
  statement-labels row inside h = (measured.row_measured row (omega arith) inside).statement.labels_are ∙ limited-small _ (omega arith)

  pub rows-of-list : (list : ℕ) → list < row_count rows → items_size (called_in rows) (list_at rows list) ≤ 40980 → slot_at table list list_rows_slot ≡ items_size (called_in rows) (list_at rows list)
  rows-of-list list inside h = list-rows rows table later-measured list (as-link list inside) ∙ limited-small _ (omega arith)

  pub cases-of-list : (list : ℕ) → list < row_count rows → cases (list_at rows list) ≤ 40980 → slot_at table list list_cases_slot ≡ cases (list_at rows list)
  cases-of-list list inside h = list_cases rows table later-measured list (as-link list inside) ∙ limited-small _ (omega arith)

  pub rows-of-arms : (arms : ℕ) → arms < row_count rows → arms_size (called_in rows) (arm_list_at rows arms) ≤ 40980 → slot_at table arms arms_rows_slot ≡ arms_size (called_in rows) (arm_list_at rows arms)
  rows-of-arms arms inside h = arms-rows rows table later-measured arms (as-link arms inside) ∙ limited-small _ (omega arith)

  pub labels-of-arms : (arms : ℕ) → arms < row_count rows → arms_labels (arm_list_at rows arms) ≤ 65535 → slot_at table arms arms_labels_slot ≡ arms_labels (arm_list_at rows arms)
  labels-of-arms arms inside h = arms-labels rows table later-measured arms (as-link arms inside) ∙ limited-small _ (omega arith)

  pub default-of-list : (list : ℕ) → list < row_count rows → items_labels (list_at rows list) ≤ 65535 → slot_at table list list_default_slot ≡ default_place (list_at rows list)
  default-of-list list inside h = list-default rows table later-measured list (as-link list inside) ∙ limited-small _ (omega (arith, default-most (list_at rows list)))
