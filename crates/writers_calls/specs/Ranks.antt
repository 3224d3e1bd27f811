-- Ranks: the measure by which the writers along links end. Links rise, so the rows from a link on are fewer than those from its row on.
use Rattle.std.specs.Prelude.{◌≡◌, refl, List, ℕ, zero, suc, ◌-◌, ◌≤◌, ◌<◌, ℤ}
use Rattle.std.proofs.Common.{arith}
use Rattle.words.specs.Table.{row_count}

-- The rows from a row on; an absent row has none.
abbrev pub rank : List ℤ → ℕ → ℕ
rank rows zero = 0
rank rows (suc row) = row_count rows - suc row

pub rank-some : (rows : List ℤ) (row : ℕ) → 0 < row → rank rows row ≡ row_count rows - row
rank-some rows zero h = absurd (omega arith)
rank-some rows (suc row) h = refl

pub rank_most : (rows : List ℤ) (row : ℕ) → rank rows row ≤ row_count rows
rank_most rows zero = omega arith
rank_most rows (suc row) = omega arith

pub rank_falls : (rows : List ℤ) (row link : ℕ) → 0 < row → row < row_count rows → (0 < link → row < link) → rank rows link < rank rows row
rank_falls rows row zero p q f = omega (arith, rank-some rows row p)
rank_falls rows row (suc link) p q f = omega (arith, rank-some rows row p, f (omega arith))

pub rank_below : (rows : List ℤ) (row link : ℕ) → row < row_count rows → (0 < link → row < link) → rank rows link < row_count rows - row
rank_below rows row zero q f = omega arith
rank_below rows row (suc link) q f = omega (arith, f (omega arith))
