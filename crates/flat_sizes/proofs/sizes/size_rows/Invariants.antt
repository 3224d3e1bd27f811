use mathlib.Core.Path.{◌≡◌}
use lib.ListN.{length}
use Rattle.flat_sizes.specs.Tables.{Sized}
use Rattle.flat_sizes.proofs.sizes.size_rows.Given as goal

abbrev pub invariant-loop-row : goal.invariant-loop-row
invariant-loop-row l =
    Sized l.rows l.row l.sizes × (length l.sizes ≡ length l.initial.sizes)
