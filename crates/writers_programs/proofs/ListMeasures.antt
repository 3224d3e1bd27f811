-- What the table of measures says of the labels and the levels of a list.
use mathlib.Core.Path.{◌≡◌, ◌∙◌}
use mathlib.Core.List.{List}
use Prim.Native.Nat.{ℕ, zero, suc, ◌+◌, ◌≤◌, ◌<◌}
use native.Mathlib.Omega.{arith}
use lib.IntN.{ℤ}
use Rattle.words.specs.Table.{row_count}
use Rattle.language.specs.Decode.{list_at}
use Rattle.translation.specs.Translate.{items_labels, items_levels}
use Rattle.language_shapes.specs.Shapes.{OptionalOnward}
use Rattle.measures_table.specs.Parts.{called_in}
use Rattle.measures_table.specs.Measures.{list_levels_slot, list_labels_slot, slot_at, Measured, MeasuredFrom}
use Rattle.measures_table.specs.MeasureLaws.{limited-small, list-labels, list-levels, whole-behind}

module _ {rows : List ℤ} {table : List ℕ} (m : Measured rows table) (list : ℕ) (inside : list < row_count rows) where
  as-link : OptionalOnward rows 0 list
  as-link h = record { later = h; inside = inside }

  pub labels-of-list : items_labels (list_at rows list) ≤ 65535 → slot_at table list list_labels_slot ≡ items_labels (list_at rows list)
  labels-of-list h = list-labels rows table (whole-behind m 0) list as-link ∙ limited-small _ (omega arith)

  pub levels-of-list : items_levels (called_in rows) (list_at rows list) ≤ 65535 → slot_at table list list_levels_slot ≡ items_levels (called_in rows) (list_at rows list)
  levels-of-list h = list-levels rows table (whole-behind m 0) list as-link ∙ limited-small _ (omega arith)
