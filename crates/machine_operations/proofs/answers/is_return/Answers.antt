-- `is_return` compares the answer with both ends of the returns' numbers.
use Rattle.machine_operations.proofs.Decoding.{return-below, return-test}
use Rattle.machine_operations.proofs.answers.is_return.Goals as goal

pub returns-then-answer-lt6442450944 : goal.returns-then-answer-lt6442450944
returns-then-answer-lt6442450944 c = return-below c.args.answer c.ranges.answer c.if-answer-lt6442450944.true

pub returns : goal.returns
returns c = return-test c.args.answer c.ranges.answer c.if-answer-lt6442450944.false
