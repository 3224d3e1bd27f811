-- `row_cause` takes the fields in order. The invariant: the first cause of the fields passed.
use mathlib.Core.Path.{◌≡◌}
use Rattle.check_structure.specs.Passes.{field_cause, least_cause, cause_named, number_of}
use Rattle.check_structure.proofs.causes.MarkedRows.row_cause.Given as goal

abbrev pub invariant-loop-field : goal.invariant-loop-field
invariant-loop-field l =
    number_of l.cause ≡ cause_named (least_cause (field_cause l.self.form l.self.bounds l.self.rows.now l.row) l.field)
