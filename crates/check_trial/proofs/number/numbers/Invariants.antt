-- `numbers`: no more words are written than there are.
use Rattle.std.proofs.Common.{◌≤◌, length}
use Rattle.check_trial.proofs.number.numbers.Given as goal

abbrev pub invariant-loop-byte : goal.invariant-loop-byte
invariant-loop-byte l = l.count ≤ length l.words
