-- `after_switch` ends a break.
use Rattle.machine_flows.proofs.Answers.{switch-break}
use Rattle.machine_flows.proofs.flows.after_switch.Goals as goal

pub returns : goal.returns
returns c =
    let past-flow = c.flow in
    switch-break c.args.answer c.ranges.answer.sfits past-flow.result past-flow.ensures c.in-Break.is
