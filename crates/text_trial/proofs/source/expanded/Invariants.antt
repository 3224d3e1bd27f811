-- `expanded`: the end stays within the text.
use Rattle.std.proofs.Common.{◌≤◌, length}
use Rattle.text_trial.proofs.source.expanded.Given as goal

abbrev pub invariant-loop-symbol : goal.invariant-loop-symbol
invariant-loop-symbol l = l.end ≤ length l.text
