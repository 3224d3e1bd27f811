-- The rows from the loop's row on are measured.
use native.Mathlib.Omega.{arith}
use Rattle.measures_table.specs.MeasureLaws.{measured-none, measured-back, measured-zero}
use Rattle.measures.proofs.pass.measure_rows.Goals as goal

pub loop-row-init : goal.loop-row-init
loop-row-init c = measured-none c.requires.0.source c.requires.1

pub measure_row-requires : goal.measure_row-requires
measure_row-requires c = (c.requires.0, measured-back c.loop-row.row (omega arith) c.loop-row.invariant, omega arith)

pub returns : goal.returns
returns c = measured-zero c.loop-row.row (omega arith) c.loop-row.invariant
