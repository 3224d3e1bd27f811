-- Ranges of rows: what holds of each row of a part, from its first row and its parts.
use Rattle.std.specs.Prelude.{◌≡◌, ℕ, ◌+◌, ◌≤◌, ◌<◌}
use Rattle.std.proofs.Common.{subst, arith}
use Rattle.std.proofs.Math.Decide.{ℕ_discrete, dec_lt}
use Rattle.std.proofs.Math.Arith.{lt_of_le-ne}

-- Each row from `low` to before `high`.
abbrev pub Each : (ℕ → Type 0) → ℕ → ℕ → Type 0
Each P low high = (row : ℕ) → low ≤ row → row < high → P row

pub none_of : (P : ℕ → Type 0) (low high : ℕ) → high ≤ low → Each P low high
none_of P low high h row l m = absurd (omega arith)

pub join : (P : ℕ → Type 0) (low middle high : ℕ) → Each P low middle → Each P middle high → Each P low high
join P low middle high u v row l m = go (dec_lt row middle)
  where
    go : Dec (row < middle) → P row
    go (yes h) = u row l h
    go (no h) = v row (omega arith) m

pub first-and : (P : ℕ → Type 0) (low high : ℕ) → P low → Each P (low + 1) high → Each P low high
first-and P low high p rest row l m = go (ℕ_discrete low row)
  where
    go : Dec (low ≡ row) → P row
    go (yes e) = subst P e p
    go (no h) = let k = lt_of_le-ne l h in rest row (omega arith) m
