-- `unmark` takes the rows in order. The invariant: the marks of the rows passed are taken away.
use mathlib.Core.Path.{◌≡◌}
use Prim.Native.Nat.{◌≤◌, ◌-◌}
use native.Mathlib.Omega.{arith}
use Rattle.check_structure.specs.Passes.{Cleared}
use Rattle.check_structure.proofs.Marks.{cleared-none, cleared_more}
use Rattle.check_structure.proofs.links.unmark.Given as goal

abbrev pub invariant-loop-row : goal.invariant-loop-row
invariant-loop-row l = (l.row ≤ l.count) × Cleared l.row l.initial.marks l.marks

abbrev pub decreases-loop-row : goal.decreases-loop-row
decreases-loop-row l = l.count - l.row
