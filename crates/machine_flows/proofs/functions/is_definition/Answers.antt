-- `is_definition` tests the kind by its number.
use borrow.Author.Tests.{eq-eqb}
use Rattle.machine_flows.proofs.Definitions.{defined-none, defined-test}
use Rattle.machine_flows.proofs.functions.is_definition.Goals as goal

pub returns-else-row-ne0 : goal.returns-else-row-ne0
returns-else-row-ne0 c = rw (eq-eqb _ _ c.if-row-ne0.false) (defined-none c.args.rows.now c.args.row c.if-row-ne0.false)

pub returns-then-row-ne0 : goal.returns-then-row-ne0
returns-then-row-ne0 c = defined-test c.args.rows.now c.args.row c.if-row-ne0.true c.number_at.ensures
