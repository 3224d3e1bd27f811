-- `lowest_of_all` goes through the label numbers. The invariant: `found` is the lowest row among those with smaller numbers.
use mathlib.Core.Path.{◌≡◌, refl, ◌∙◌}
use Prim.Native.Nat.{◌-◌, ◌≤◌}
use native.Mathlib.Omega.{arith}
use lib.ListN.{length}
use Rattle.check_labels.specs.Labels.{label_fault}
use Rattle.check_labels.specs.Passes.{Marks, LowestAmong, NumberBelow}
use Rattle.check_labels.proofs.Faults.{lowest-none}
use Rattle.check_labels.proofs.labels.lowest_of_all.Goals as goal

pub loop-number-init : goal.loop-number-init
loop-number-init c = (omega arith, c.requires.3, lowest-none _, refl)

pub offset_bounds-heads-number : goal.offset_bounds-heads-number
offset_bounds-heads-number c = record { fits = omega arith }

pub bounds-heads-number : goal.bounds-heads-number
bounds-heads-number c = let room = c.requires.1.room in omega arith

pub mark_labels-requires : goal.mark_labels-requires
mark_labels-requires c =
    let pre = c.requires in
    (pre.0.tree, pre.0.first_rows, pre.2, c.loop-number.invariant.1, rw c.wide-head.ensures (pre.1.head _ (omega arith)))

pub lowest_of_number-found-requires : goal.lowest_of_number-found-requires
lowest_of_number-found-requires c =
    let pre = c.requires in
    (pre.0, c.mark_labels.ensures, pre.2, rw c.wide-head.ensures (pre.1.head _ (omega arith)), c.loop-number.invariant.2)

pub loop-number-preserved : goal.loop-number-preserved
loop-number-preserved c = (omega arith, c.mark_labels.ensures.labels, c.lowest_of_number-found.ensures, c.mark_labels.auto.marks ∙ c.loop-number.invariant.3)

pub shape_of-marks : goal.shape_of-marks
shape_of-marks c = c.loop-number.invariant.3

pub returns : goal.returns
returns c = let last : c.loop-number.number ≡ 40980 = omega arith in rw (← last) c.loop-number.invariant.2
