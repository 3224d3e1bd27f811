-- `lengths_fit` tests and sums the lengths in order. The invariant: with those to come, the sum and the test are those of
-- all lengths. The measure is the number to come.
use mathlib.Core.Path.{◌≡◌}
use mathlib.Core.List.{map}
use Prim.Native.Nat.{◌+◌, ◌*◌, ◌≤◌}
use Rattle.words.specs.Word.{natural}
use Rattle.words.specs.Layout.{sum, all_within}
use Rattle.words.proofs.Lengths.{rest}
use Rattle.words.proofs.layout.lengths_fit.Given as goal

abbrev pub invariant-loop-length : goal.invariant-loop-length
invariant-loop-length l =
    (l.total + sum (rest l.lengths l.length-index) ≡ l.variables + sum (map natural l.lengths))
    × (all_within 4096 (rest l.lengths l.length-index) ≡ all_within 4096 (map natural l.lengths))
    × (l.total ≤ 256 + 4096 * l.length-index)
