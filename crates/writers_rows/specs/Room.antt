-- Room: the part of a table that is free for rows, and whether anything stands behind them.
use Rattle.std.specs.Prelude.{Bool, true, ℕ, zero, suc, ◌+◌, ◌*◌, ◌≤◌}

-- Rows have room in a table of so many words, from the row `base` on.
pub record Room (rows base words : ℕ) : Type 0 where
  pub inside : 6 * rows ≤ words
  pub low : base + rows ≤ 40980

-- Whether anything stands behind, where so many rows come first.
abbrev pub more_rows : Bool → ℕ → Bool
more_rows follows zero = follows
more_rows follows (suc rows) = true
