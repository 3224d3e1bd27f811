-- `answer_cases`: the position stays within the input, and what is lent keeps its length.
use mathlib.Core.Path.{◌≡◌}
use Prim.Native.Nat.{◌-◌, ◌≤◌}
use lib.ListN.{length}
use Rattle.programs.proofs.answer_cases.Given as goal

abbrev pub invariant-loop-at : goal.invariant-loop-at
invariant-loop-at g l =
    (length l.kernel_rows ≡ length l.initial.kernel_rows) × ((length l.text ≡ length l.initial.text) × ((length l.read_rows ≡ length l.initial.read_rows) × (l.at ≤ length l.input)))

abbrev pub decreases-loop-at : goal.decreases-loop-at
decreases-loop-at g l = length l.input - l.at
