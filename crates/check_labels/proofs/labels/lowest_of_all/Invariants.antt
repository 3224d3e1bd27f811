-- `lowest_of_all` goes through the label numbers. The invariant: `found` is the lowest row among those with smaller numbers.
use mathlib.Core.Path.{◌≡◌, refl, ◌∙◌}
use Prim.Native.Nat.{◌-◌, ◌≤◌}
use native.Mathlib.Omega.{arith}
use lib.ListN.{length}
use Rattle.check_labels.specs.Labels.{label_fault}
use Rattle.check_labels.specs.Passes.{Marks, LowestAmong, NumberBelow}
use Rattle.check_labels.proofs.Faults.{lowest-none}
use Rattle.check_labels.proofs.labels.lowest_of_all.Given as goal

abbrev pub invariant-loop-number : goal.invariant-loop-number
invariant-loop-number l =
    (l.number ≤ 40980) × Marks l.rows l.marks × LowestAmong l.rows (NumberBelow l.rows l.number) (label_fault l.rows) l.found × (length l.marks ≡ length l.initial.marks)

abbrev pub decreases-loop-number : goal.decreases-loop-number
decreases-loop-number l = 40980 - l.number
