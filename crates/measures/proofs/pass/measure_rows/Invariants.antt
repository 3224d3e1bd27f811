-- The rows from the loop's row on are measured.
use Rattle.measures_table.specs.Measures.{MeasuredFrom}
use Rattle.measures.proofs.pass.measure_rows.Given as goal

abbrev pub invariant-loop-row : goal.invariant-loop-row
invariant-loop-row l = MeasuredFrom l.rows l.table l.row
