-- Ranks: why the writers of expressions end.
use mathlib.Core.Path.{◌≡◌}
use mathlib.Core.List.{List}
use Prim.Native.Nat.{ℕ, ◌+◌, ◌*◌, ◌-◌, ◌<◌, max}
use native.Mathlib.Omega.{arith}
use lib.IntN.{ℤ}
use Rattle.words.specs.Table.{row_count}
use Rattle.writers_calls.specs.Ranks.{rank, rank_below}

-- The branches of a choice at a row are absent or later.
pub choice-falls : (rows : List ℤ) (row : ℕ) {on_true on_false t : ℕ} → (0 < on_true → row < on_true) → (0 < on_false → row < on_false)
    → row < row_count rows → 4 * (row_count rows - row) - 1 ≡ t → 4 * max (rank rows on_true) (rank rows on_false) + 2 < t
choice-falls rows row {on_true} {on_false} {t} f g h e = omega (arith, rank_below rows row on_true h f, rank_below rows row on_false h g)
