-- `resume` goes by the flow of the answer.
use mathlib.Core.Path.{◌∙◌}
use Rattle.machine_flows.proofs.Answers.{flow-is}
use Rattle.machine_flows.proofs.Items.{at_row, next-asks, next_is, resumes-next, resumes-goto, resumes-left}
use Rattle.machine_flows.proofs.lists.resume.Goals as goal

pub link_at-requires : goal.link_at-requires
link_at-requires c = next-asks c.requires

pub link_at-requires-in-Goto : goal.link_at-requires-in-Goto
link_at-requires-in-Goto c = next-asks c.requires

pub find_mark-requires : goal.find_mark-requires
find_mark-requires c =
    at_row c.requires (next_is c.requires c.link_at-in-Goto.ensures).0

pub returns-in-Next : goal.returns-in-Next
returns-in-Next c =
    let past-flow = c.flow in
    resumes-next c.requires c.args.answer c.link_at.ensures (flow-is c.args.answer c.ranges.answer.sfits past-flow.result past-flow.ensures ∙ c.in-Next.is)

pub returns-in-Goto : goal.returns-in-Goto
returns-in-Goto c =
    let past-flow = c.flow in
    resumes-goto c.requires c.args.answer c.link_at-in-Goto.ensures (flow-is c.args.answer c.ranges.answer.sfits past-flow.result past-flow.ensures ∙ c.in-Goto.is) c.find_mark.ensures

pub returns-in-Break : goal.returns-in-Break
returns-in-Break c = resumes-left c.requires c.args.answer (flow-is c.args.answer c.ranges.answer.sfits c.flow.result c.flow.ensures) c.in-Break.is
