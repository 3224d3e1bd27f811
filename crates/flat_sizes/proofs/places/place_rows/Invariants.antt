use mathlib.Core.Path.{◌≡◌}
use lib.ListN.{length}
use Rattle.flat_sizes.specs.Tables.{LinesPlaced, Labelled}
use Rattle.flat_sizes.proofs.places.place_rows.Given as goal

abbrev pub invariant-loop-row : goal.invariant-loop-row
invariant-loop-row l =
    LinesPlaced l.rows l.row l.lines × Labelled l.rows l.row l.labels × (length l.lines ≡ length l.initial.lines) × (length l.labels ≡ length l.initial.labels)
