-- Programs: what the functions that measure a program give.
use Rattle.std.specs.Prelude.{◌≡◌, Bool, List, ℕ, ◌+◌, ◌≤◌, length}
use Rattle.language.specs.Functions.{Function}
use Rattle.translation.specs.Translate.{items_labels, items_levels}
use Rattle.translation.specs.TranslateSize.{items_size}
use Rattle.measures_table.specs.Measures.{limited, list_rows_slot, list_levels_slot, list_labels_slot, slot_at}
use Rattle.measures_table.specs.declared.StatementMeasures.{StatementMeasures}

-- How many words there are, which are few.
pub record CountIs (words : List ℕ) (n : ℕ) : Type 0 where
  pub is : n ≡ length words
  pub few : n ≤ 2048

pub record SmallMeasures (m : StatementMeasures) : Type 0 where
  pub rows_small : m.rows ≤ 65536
  pub levels_small : m.levels ≤ 65536
  pub labels_small : m.labels ≤ 65536

abbrev pub added : StatementMeasures → StatementMeasures → StatementMeasures
added found more = record { rows = limited (found.rows + more.rows); levels = limited (found.levels + more.levels); labels = limited (found.labels + more.labels) }

abbrev pub list_measures : List ℕ → ℕ → StatementMeasures
list_measures table list = record { rows = slot_at table list list_rows_slot; levels = slot_at table list list_levels_slot; labels = slot_at table list list_labels_slot }

-- A definition brings its row, those of its parameters, its block's row and the rows of its block; `called f i`: whether function f can write the
-- variable i.
pub record DefinitionMeasured (called : ℕ → ℕ → Bool) (function : Function) (m : StatementMeasures) : Type 0 where
  pub rows_are : m.rows ≡ limited (2 + length function.parameters + items_size called function.body)
  pub levels_are : m.levels ≡ limited (items_levels called function.body)
  pub labels_are : m.labels ≡ limited (items_labels function.body)
