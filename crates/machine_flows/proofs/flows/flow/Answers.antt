-- `flow` reads the word of the answer, if it is one.
use mathlib.Core.Path.{sym, ap, ◌∙◌}
use Rattle.words.specs.Laws.{back}
use Rattle.machine_operations.specs.Answers.{is_return, operand_of}
use Rattle.machine_operations.proofs.Decoding.{handed-is}
use Rattle.machine_flows.specs.Flows.{passing_of}
use Rattle.machine_flows.proofs.Answers.{flow-stops, flow-passes, flow-returns}
use Rattle.machine_flows.proofs.flows.flow.Goals as goal

pub returns-then-is_return : goal.returns-then-is_return
returns-then-is_return c =
    sym (flow-returns c.args.answer (ap is_return (sym (handed-is c.args.answer c.ranges.answer.sfits)) ∙ sym c.is_return.ensures ∙ c.if-is_return.true))

pub returns-in_default : goal.returns-in_default
returns-in_default c =
    sym (flow-stops c.args.answer (ap operand_of (sym (handed-is c.args.answer c.ranges.answer.sfits)) ∙ sym c.operand.ensures ∙ c.in_default.is))

pub returns : goal.returns
returns c =
    let past-operand = c.operand in
    c.passing.ensures ∙ ap passing_of (back c.in-Some.number c.in-Some.known_told-1-own.given.0.1)
    ∙ sym (flow-passes c.args.answer c.in-Some.number (ap is_return (sym (handed-is c.args.answer c.ranges.answer.sfits)) ∙ sym c.is_return.ensures ∙ c.if-is_return.false) (ap operand_of (sym (handed-is c.args.answer c.ranges.answer.sfits)) ∙ sym past-operand.ensures ∙ c.in-Some.is))
