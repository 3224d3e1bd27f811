-- `ending_of` makes the tests of its definition in order.
use mathlib.Core.Path.{ap, ◌∙◌}
use Rattle.words.specs.Answers.{fault_numbered}
use Rattle.words.specs.declared.Ending.TheVariants.{Fault}
use Rattle.machine_operations.specs.Answers.{beyond}
use Rattle.machine_operations.proofs.Decoding.{handed-is}
use Rattle.machine.proofs.Endings.{ending-plain, ending-spent, ending_fault}
use Rattle.machine.proofs.whole.ending_of.Goals as goal

pub returns-in-Some : goal.returns-in-Some
returns-in-Some c = ending-plain c.args.answer c.ranges.answer.sfits c.operand.result c.operand.ensures c.in-Some.field-0 c.in-Some.is

pub returns-in-None : goal.returns-in-None
returns-in-None c = ending-spent c.args.answer c.ranges.answer.sfits c.operand.result c.operand.ensures c.in-None.is c.if-answer-eq-SPENT.true

pub returns-in-None-2 : goal.returns-in-None-2
returns-in-None-2 c =
    ap Fault (c.fault_numbered.ensures ∙ ap fault_numbered (c.beyond.ensures ∙ ap beyond (handed-is c.args.answer c.ranges.answer.sfits)))
    ∙ ending_fault c.args.answer c.ranges.answer.sfits c.operand.result c.operand.ensures c.in-None.is c.if-answer-eq-SPENT.false
