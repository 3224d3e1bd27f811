-- `declaration_count` goes over the rows in order. The invariant: the count is that of the declarations passed.
use mathlib.Core.Path.{◌≡◌}
use Prim.Native.Nat.{◌-◌, ◌/◌, ◌≤◌}
use lib.ListN.{length}
use Rattle.words.specs.Declarations.{declarations_before}
use Rattle.words.proofs.declarations.declaration_count.Given as goal

abbrev pub invariant-loop-row : goal.invariant-loop-row
invariant-loop-row l =
    (l.row ≤ l.row-end) × (l.row-end ≡ length l.rows / 6) × (l.count ≡ declarations_before l.rows l.row)

abbrev pub decreases-loop-row : goal.decreases-loop-row
decreases-loop-row l =
    l.row-end - l.row
