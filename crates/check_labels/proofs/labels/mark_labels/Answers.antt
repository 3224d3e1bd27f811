-- `mark_labels` follows the chain. The invariant: the labels with the number before `row` have marked their lists.
use mathlib.Core.Path.{◌≡◌, refl, ◌∙◌}
use Prim.Native.Nat.{◌<◌, ◌+◌, ◌-◌}
use native.Mathlib.Omega.{arith}
use lib.ListN.{length}
use Rattle.words.specs.Table.{row_count}
use Rattle.check_labels.specs.Passes.{Jump, NextJump, Marked}
use Rattle.check_labels.proofs.Marking.{marked_start, marked-skip, marked_all}
use Rattle.check_labels.proofs.labels.mark_labels.Goals as goal
use Rattle.check_labels.proofs.labels.mark_labels.Goals.{After-wide-row}

pub loop-row-init : goal.loop-row-init
loop-row-init c =
    let pre = c.requires in
    (refl, marked-skip _ _ _ _ _ pre.4 (marked_start _ _ _ pre.3), pre.4.is, refl)

pub mark_label-requires : goal.mark_label-requires
mark_label-requires c = (c.requires.0, omega arith, c.requires.1, c.loop-row.invariant.1)

pub offset_bounds-chain-row : goal.offset_bounds-chain-row
offset_bounds-chain-row c = let few = c.requires.0.few in record { fits = omega arith }

pub bounds-chain-row : goal.bounds-chain-row
bounds-chain-row c = let room = c.requires.2.room in omega arith

-- what follows in the chain
next_is : (c : After-wide-row) → NextJump c.args.rows.now c.args.number (c.loop-row.row + 1) c.wide-row.result
next_is c = rw c.wide-row.ensures (c.requires.2.follows _ _ (omega arith) (c.loop-row.invariant.2 (omega arith)))

pub loop-row-smaller : goal.loop-row-smaller
loop-row-smaller c = let next = (next_is c).least in omega arith

pub loop-row-preserved : goal.loop-row-preserved
loop-row-preserved c =
    (refl, marked-skip _ _ _ _ _ (next_is c) c.mark_label.ensures, (next_is c).is, c.mark_label.auto.marks ∙ c.loop-row.invariant.3)

pub shape_of-marks : goal.shape_of-marks
shape_of-marks c = c.loop-row.invariant.3

pub returns : goal.returns
returns c = marked_all _ _ _ _ (omega arith) c.loop-row.invariant.1
