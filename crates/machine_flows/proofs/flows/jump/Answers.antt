-- `jump` tests the sign of the label.
use Rattle.machine_operations.proofs.Decoding.{wide_fits}
use Rattle.machine_flows.proofs.Answers.{jump-negative, jump_label}
use Rattle.machine_flows.proofs.flows.jump.Goals as goal

pub returns-then-label-lt0 : goal.returns-then-label-lt0
returns-then-label-lt0 c = jump-negative c.args.label c.ranges.label.sfits c.if-label-lt0.true

pub overflow_cast-result : goal.overflow_cast-result
overflow_cast-result c = wide_fits c.args.label c.ranges.label.sfits

pub returns : goal.returns
returns c = jump_label c.args.label c.ranges.label.sfits c.if-label-lt0.false
