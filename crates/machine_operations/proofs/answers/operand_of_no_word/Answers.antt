-- `operand_of_no_word` tests whether the answer is a return's.
use Rattle.machine_operations.proofs.Decoding.{operand-none, operand-zero}
use Rattle.machine_operations.proofs.answers.operand_of_no_word.Goals as goal

pub returns-then-is_return : goal.returns-then-is_return
returns-then-is_return c = operand-zero c.args.answer c.ranges.answer c.requires c.is_return.ensures c.if-is_return.true

pub returns : goal.returns
returns c = operand-none c.args.answer c.ranges.answer c.requires c.is_return.ensures c.if-is_return.false
