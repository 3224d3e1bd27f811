-- `lowest_cause` takes the rows in order. The invariant: the first cause of the rows passed, at its lowest row.
use mathlib.Core.Path.{◌≡◌}
use Rattle.check_structure.specs.Passes.{row_cause, lowest_cause, verdict_of}
use Rattle.check_structure.proofs.causes.MarkedRows.lowest_cause.Given as goal

abbrev pub invariant-loop-row : goal.invariant-loop-row
invariant-loop-row l =
    l.found ≡ verdict_of (lowest_cause (row_cause l.self.form l.self.bounds l.self.rows.now) l.row)
