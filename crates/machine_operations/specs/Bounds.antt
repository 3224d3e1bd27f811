-- Bounds: where the arrays lie in the store, as a list: where each array begins, and where the last one ends. It is worked out
-- once a run, and a layout can be read off it. A run's list has the rows of the functions too, from its end.
use Rattle.std.specs.Prelude.{List, [], ◌∷◌, ℕ, ◌+◌, ◌-◌, ℤ, length, get_or, take}
use Rattle.words.specs.Layout.{Layout}
use Rattle.language.specs.Functions.{function_count}
use Rattle.language.specs.Program.{contents}

-- The bounds of arrays of these lengths, from `base` on.
unfoldable pub bounds_from : ℕ → List ℕ → List ℕ
bounds_from base [] = base ∷ []
bounds_from base (n ∷ ns) = base ∷ bounds_from (base + n) ns

unfoldable pub bounds_of : Layout → List ℕ
bounds_of L = bounds_from L.variables L.lengths

-- The lengths between bounds.
unfoldable pub lengths_from : ℕ → List ℕ → List ℕ
lengths_from base [] = []
lengths_from base (bound ∷ bounds) = (bound - base) ∷ lengths_from bound bounds

unfoldable pub lengths_of : List ℕ → List ℕ
lengths_of [] = []
lengths_of (base ∷ bounds) = lengths_from base bounds

-- The layout with these bounds.
unfoldable pub layout_from : List ℕ → Layout
layout_from bounds = record { variables = get_or bounds 0 0; lengths = lengths_of bounds }

-- ---- a run's list: the bounds of the arrays, and the row of each function, the first function's last

-- The bounds, where there are so many functions.
abbrev pub array_bounds : ℕ → List ℕ → List ℕ
array_bounds functions list = take (length list - functions) list

-- The layout with the bounds in a run's list.
unfoldable pub layout_in : List ℤ → List ℕ → Layout
layout_in rows list = layout_from (array_bounds (function_count (contents rows)) list)

-- The row of a function in a run's list.
unfoldable pub function_row_in : List ℕ → ℕ → ℕ
function_row_in list f = get_or list (length list - 1 - f) 0
