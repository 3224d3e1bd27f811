-- `beyond` subtracts where the answer lies behind the words.
use mathlib.Core.Path.{◌≡◌, ap, ◌∙◌}
use lib.IntN.{ℤ}
use Prim.Native.Nat.{◌<◌, ◌^◌}
use lib.Signed.{mag}
use Rattle.machine_operations.specs.Answers.{beyond}
use Rattle.machine_operations.proofs.Decoding.{handed, handed-is, before-words-end, behind-casts, behind-least, behind_is}
use Rattle.machine_operations.proofs.answers.beyond.Goals as goal

same : (z : ℤ) → mag z < 2 ^ 63 → beyond (handed z) ≡ beyond z
same z h = ap beyond (handed-is z h)

pub returns-then-answer-lt-GREATEST_WORD : goal.returns-then-answer-lt-GREATEST_WORD
returns-then-answer-lt-GREATEST_WORD c = before-words-end (handed c.args.answer) c.if-answer-lt-GREATEST_WORD.true ∙ same c.args.answer c.ranges.answer.sfits

pub overflow_cast-result : goal.overflow_cast-result
overflow_cast-result c = let e = handed-is c.args.answer c.ranges.answer.sfits in behind-casts (handed c.args.answer) (rw e c.ranges.answer.sfits) c.if-answer-lt-GREATEST_WORD.false

pub overflow_sub-result : goal.overflow_sub-result
overflow_sub-result c = behind-least (handed c.args.answer) c.if-answer-lt-GREATEST_WORD.false

pub returns : goal.returns
returns c = behind_is (handed c.args.answer) c.if-answer-lt-GREATEST_WORD.false ∙ same c.args.answer c.ranges.answer.sfits
