-- `operand` tests whether the answer is a word.
use Rattle.machine_operations.proofs.Decoding.{above-no-word, below-no-word, operand-is}
use Rattle.machine_operations.proofs.answers.operand.Goals.{then-answer-ltminus2147483648-via-then-answer-ltminus2147483648, then-answer-ltminus2147483648-via-else-answer-ltminus2147483648+then-answer-gt-GREATEST_WORD}
use Rattle.machine_operations.proofs.answers.operand.Goals as goal

pub operand_of_no_word-requires : goal.operand_of_no_word-requires
operand_of_no_word-requires c = elim c.then-answer-ltminus2147483648.branch [
  | then-answer-ltminus2147483648-via-then-answer-ltminus2147483648 w ↦ below-no-word _ w.if-answer-ltminus2147483648.true
  | then-answer-ltminus2147483648-via-else-answer-ltminus2147483648+then-answer-gt-GREATEST_WORD w ↦ above-no-word _ w.if-answer-gt-GREATEST_WORD.true
]

pub returns : goal.returns
returns c =
    operand-is c.args.answer c.ranges.answer c.if-answer-gt-GREATEST_WORD.false c.if-answer-ltminus2147483648.false
