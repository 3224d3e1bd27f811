-- `after_expression` drops the value, or hands the stop on.
use mathlib.Core.Path.{refl, sym, ◌∙◌}
use Rattle.machine_operations.proofs.Operands.{goes}
use Rattle.machine_flows.proofs.Answers.{ran-next, hands-flow}
use Rattle.machine_flows.proofs.flows.after_expression.Goals as goal

pub returns-in_default : goal.returns-in_default
returns-in_default c n s =
    let past-operand = c.operand in
    hands-flow c.args.answer n s c.ranges.answer.sfits refl past-operand.result past-operand.ensures c.in_default.is _

pub returns : goal.returns
returns c n s =
    let past-operand = c.operand in
    ran-next n s ∙ sym (goes _ c.args.answer n s c.ranges.answer.sfits refl past-operand.result past-operand.ensures c.in-Some.field-0 c.in-Some.is)
