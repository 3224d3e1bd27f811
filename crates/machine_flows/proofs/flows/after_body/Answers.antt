-- `after_body` goes by the flow of the answer.
use Rattle.std.proofs.Common.{inl, inr}
use Rattle.machine_flows.proofs.Answers.{body-next, body-break, body-kept}
use Rattle.machine_flows.proofs.flows.after_body.Goals as goal

pub returns-in-Next : goal.returns-in-Next
returns-in-Next c =
    let past-flow = c.flow in
    body-next c.args.answer c.ranges.answer.sfits past-flow.result past-flow.ensures c.in-Next.is

pub returns-in-Break : goal.returns-in-Break
returns-in-Break c =
    let past-flow = c.flow in
    body-break c.args.answer c.ranges.answer.sfits past-flow.result past-flow.ensures c.in-Break.is

pub returns-in-Return : goal.returns-in-Return
returns-in-Return c = body-kept c.args.answer c.ranges.answer.sfits c.flow.result c.flow.ensures (inl c.in-Return.is)

pub returns-in-Continue : goal.returns-in-Continue
returns-in-Continue c = body-kept c.args.answer c.ranges.answer.sfits c.flow.result c.flow.ensures (inr c.in-Continue.is)
