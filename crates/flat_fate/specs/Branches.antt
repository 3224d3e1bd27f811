-- Branches: the line at which the parts of an if and the body of a while begin.
use Rattle.std.specs.Prelude.{Bool, true, false, ℕ, zero, suc, ◌+◌}
use Rattle.flat_fate.specs.Code.{if_lines}

-- Where the branches of an if from line i on stand: one without a line stands behind the other.
abbrev pub first_at : ℕ → ℕ → ℕ → ℕ
first_at zero q i = i + if_lines zero q
first_at (suc p) q i = i + 1

abbrev pub second_at : ℕ → ℕ → ℕ → ℕ
second_at zero zero i = i + if_lines zero zero
second_at (suc p) zero i = i + if_lines (suc p) zero
second_at zero (suc q) i = i + 1
second_at (suc p) (suc q) i = i + (2 + suc p)

abbrev pub body_at : Bool → ℕ → ℕ
body_at true i = i
body_at false i = i + 1
