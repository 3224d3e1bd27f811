-- `sum_of` sums the lengths in order. The invariant: with those to come, the sum is that of all lengths. The measure is the
-- number to come.
use mathlib.Core.Path.{◌≡◌}
use mathlib.Core.List.{map}
use Prim.Native.Nat.{◌+◌}
use Rattle.words.specs.Word.{natural}
use Rattle.words.specs.Layout.{sum}
use Rattle.words.proofs.Lengths.{rest}
use Rattle.words.proofs.layout.sum_of.Given as goal

abbrev pub invariant-loop-length : goal.invariant-loop-length
invariant-loop-length l =
    (l.total + sum (rest l.lengths l.length-index) ≡ sum (map natural l.lengths))
