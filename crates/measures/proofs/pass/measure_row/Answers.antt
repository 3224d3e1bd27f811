-- One row more is measured.
use native.Mathlib.Omega.{arith}
use Rattle.measures_table.proofs.Stores.{one_more}
use Rattle.measures.proofs.pass.measure_row.Goals as goal

pub measured_statement-statement-requires : goal.measured_statement-statement-requires
measured_statement-statement-requires c = (c.requires.1, c.requires.2)

pub measured_list-list-requires : goal.measured_list-list-requires
measured_list-list-requires c = (c.requires.1, c.requires.2, c.measured_statement-statement.ensures)

pub measured_arms-arms-requires : goal.measured_arms-arms-requires
measured_arms-arms-requires c = (c.requires.1, c.requires.2)

pub set_measures-requires : goal.set_measures-requires
set_measures-requires c = omega (arith, c.requires.1.room, c.requires.2)

pub returns : goal.returns
returns c = one_more _ _ _ _ _ _ _ _ (omega (arith, c.requires.1.room, c.requires.2)) c.set_measures.ensures c.measured_expression-expression.ensures c.measured_statement-statement.ensures c.measured_list-list.ensures c.measured_arms-arms.ensures c.requires.1
