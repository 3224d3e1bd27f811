-- `after_call` takes the value of a return, or 0, or hands the stop on.
use Rattle.machine_flows.proofs.Answers.{call_fits, call_returns, call-stops, call_ends}
use Rattle.machine_flows.proofs.flows.after_call.Goals as goal

pub overflow_sub-result : goal.overflow_sub-result
overflow_sub-result c =
    record { sfits = call_fits c.args.answer c.ranges.answer.sfits c.is_return.ensures c.if-is_return.true }

pub returns-then-is_return : goal.returns-then-is_return
returns-then-is_return c =
    call_returns c.args.answer c.ranges.answer.sfits c.is_return.ensures c.if-is_return.true

pub returns-in_default : goal.returns-in_default
returns-in_default c =
    let past-operand = c.operand in
    call-stops c.args.answer c.ranges.answer.sfits c.is_return.ensures c.if-is_return.false past-operand.result past-operand.ensures c.in_default.is

pub returns : goal.returns
returns c =
    let past-operand = c.operand in
    call_ends c.args.answer c.ranges.answer.sfits c.is_return.ensures c.if-is_return.false past-operand.result past-operand.ensures c.in-Some.field-0 c.in-Some.is
