-- `answer_input`: the bytes filled stay within the buffer, and what is lent keeps its length.
use mathlib.Core.Path.{◌≡◌}
use Prim.Native.Nat.{◌≤◌}
use lib.ListN.{length}
use Rattle.programs.proofs.answer_input.Given as goal

abbrev pub invariant-loop-turn : goal.invariant-loop-turn
invariant-loop-turn g l =
    (length l.buffer ≡ length l.initial.buffer) × ((length l.kernel_rows ≡ length l.initial.kernel_rows) × ((length l.text ≡ length l.initial.text) × ((length l.read_rows ≡ length l.initial.read_rows) × (l.filled ≤ length l.buffer))))
