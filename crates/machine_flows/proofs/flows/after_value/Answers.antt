-- `after_value` counts the value from 2^33, or hands the stop on.
use mathlib.Core.Path.{refl, sym, ◌∙◌}
use Rattle.machine_operations.proofs.Decoding.{wide_fits}
use Rattle.machine_operations.proofs.Operands.{goes}
use Rattle.machine_flows.proofs.Answers.{return-adds, ran-returned, hands-flow}
use Rattle.machine_flows.proofs.flows.after_value.Goals as goal

pub returns-in_default : goal.returns-in_default
returns-in_default c n s =
    let past-operand = c.operand in
    hands-flow c.args.answer n s c.ranges.answer.sfits refl past-operand.result past-operand.ensures c.in_default.is _

pub overflow_cast-result : goal.overflow_cast-result
overflow_cast-result c = wide_fits c.in-Some.value c.in-Some.known_told-1-own.given.0.1

pub overflow_add-result : goal.overflow_add-result
overflow_add-result c = return-adds c.in-Some.value c.in-Some.known_told-1-own.given.0.1

pub returns : goal.returns
returns c n s =
    let past-operand = c.operand in
    ran-returned c.in-Some.value c.in-Some.known_told-1-own.given.0.1 n s
    ∙ sym (goes _ c.args.answer n s c.ranges.answer.sfits refl past-operand.result past-operand.ensures c.in-Some.value c.in-Some.is)
