-- `mark_parameters` goes over the rows in order. The invariant: what the rows so far make parameters is marked.
use mathlib.Core.Path.{◌≡◌, refl, ◌∙◌}
use Prim.Native.Nat.{◌-◌, ◌/◌, ◌≤◌}
use native.Mathlib.Omega.{arith}
use lib.ListN.{length}
use Rattle.words_roles.specs.Passes.{Marking}
use Rattle.words_roles.proofs.MarkLaws.{marking-begun, marking-on, marking-ended, marked-length}
use Rattle.words_roles.proofs.mark_parameters.Goals as goal

pub loop-row-init : goal.loop-row-init
loop-row-init c = (omega arith, refl, marking-begun _ c.requires)

pub bounds-marks-row : goal.bounds-marks-row
bounds-marks-row c = let room = c.loop-row.invariant.2.room in omega arith

pub mark_link-requires : goal.mark_link-requires
mark_link-requires c = let room = c.loop-row.invariant.2.room in omega arith

pub loop-row-preserved : goal.loop-row-preserved
loop-row-preserved c =
    let start = c.before.before.before.before.before.before.before.before.before in
    let loop = c.loop-row in
    let own = c.parameter_link-linked.ensures in
    (omega arith, rw c.mark_link.ensures (marked-length _ _ _ _ ∙ loop.invariant.1), marking-on start.args.rows.now (omega arith) loop.invariant.2 own c.mark_link.ensures)

pub shape_of-marks : goal.shape_of-marks
shape_of-marks c = c.loop-row.invariant.1

pub returns : goal.returns
returns c = (c.loop-row.invariant.1, marking-ended _ (omega arith) c.loop-row.invariant.2)
