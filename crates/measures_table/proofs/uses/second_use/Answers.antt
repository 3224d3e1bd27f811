-- The use of the second operand's value.
use Rattle.measures_table.proofs.uses.second_use.Goals as goal

pub returns-then-passes : goal.returns-then-passes
returns-then-passes c = rw c.if-passes.true c.passed_on.ensures

pub returns : goal.returns
returns c = rw c.if-passes.false
