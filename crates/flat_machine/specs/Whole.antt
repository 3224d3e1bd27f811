-- Whole: what the run of a list asks, once its bounds are to be written.
use Rattle.std.specs.Prelude.{◌≡◌, List, map, ℕ, ◌+◌, ◌≤◌, ℤ, length}
use Rattle.words.specs.Word.{natural}
use Rattle.words.specs.Layout.{sum}
use Rattle.machine_operations.specs.Bounds.{bounds_from}
use Rattle.flat_steps.specs.Steps.{Setting}

-- There is room for the bounds, and the list is sound with them.
pub record Startable (lengths : List ℤ) (variables : ℕ) (bounds : List ℕ) (list : List ℤ) (words : ℕ) : Type 0 where
  pub room : length bounds ≡ length lengths + 1
  pub few : variables + sum (map natural lengths) ≤ 8192
  pub setting : Setting (bounds_from variables (map natural lengths)) list words
