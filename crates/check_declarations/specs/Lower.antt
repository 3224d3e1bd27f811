-- Lower: the lower of the rows that two searches found.
use Rattle.std.specs.Prelude.{min, None, Option, Some, ℕ}

unfoldable pub lower : Option ℕ → Option ℕ → Option ℕ
lower None other = other
lower (Some row) None = Some row
lower (Some row) (Some other) = Some (min row other)
