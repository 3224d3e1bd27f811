-- `put_rows`: the end stays within the text.
use Rattle.std.proofs.Common.{◌≤◌, length}
use Rattle.text_trial.proofs.source.put_rows.Given as goal

abbrev pub invariant-loop-row : goal.invariant-loop-row
invariant-loop-row l = l.end ≤ length l.text

abbrev pub invariant-loop-byte : goal.invariant-loop-byte
invariant-loop-byte l = l.end ≤ length l.text
