-- A measure of the row that a link leads to.
use mathlib.Core.Path.{sym}
use native.Mathlib.Omega.{arith}
use Rattle.measures_table.specs.MeasureLaws.{at_none, at_some}
use Rattle.measures_table.proofs.table.measure_at.Goals as goal

pub returns-then-link-eq0 : goal.returns-then-link-eq0
returns-then-link-eq0 c = let e = at_none _ c.args.link c.args.measure (omega arith) in record { is = e; small = omega arith }

pub overflow_mul-result : goal.overflow_mul-result
overflow_mul-result c = omega (arith, c.requires.held (omega arith))

pub overflow_add-result : goal.overflow_add-result
overflow_add-result c = omega (arith, c.requires.held (omega arith))

pub offset_bounds-table-link : goal.offset_bounds-table-link
offset_bounds-table-link c = omega (arith, c.requires.held (omega arith))

pub bounds-table-link : goal.bounds-table-link
bounds-table-link c = omega (arith, c.requires.held (omega arith))

pub returns : goal.returns
returns c = let e = sym (at_some _ c.args.link c.args.measure (omega arith)) in record { is = e; small = omega (arith, e, c.requires.small) }
