-- `count_differences` passes one place after the other; what is counted so far are the differences among those passed.
use mathlib.Core.Path.{◌≡◌}
use Prim.Native.Nat.{◌-◌, ◌≤◌}
use Rattle.program_previews.specs.Previews.{differences}
use Rattle.program_previews.proofs.count_differences.Given as goal

abbrev pub invariant-loop-i : goal.invariant-loop-i
invariant-loop-i l = l.tally ≡ differences l.i l.store l.copy
