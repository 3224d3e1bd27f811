-- `unmark` takes the rows in order. The invariant: the marks of the rows passed are taken away.
use mathlib.Core.Path.{◌≡◌}
use Prim.Native.Nat.{◌≤◌, ◌-◌}
use native.Mathlib.Omega.{arith}
use Rattle.check_structure.specs.Passes.{Cleared}
use Rattle.check_structure.proofs.Marks.{cleared-none, cleared_more}
use Rattle.check_structure.proofs.links.unmark.Goals as goal

pub loop-row-init : goal.loop-row-init
loop-row-init c = (omega arith, cleared-none _)

pub bounds-marks-row : goal.bounds-marks-row
bounds-marks-row c = let same = c.loop-row.invariant.1.same in let room = c.requires in omega arith

pub loop-row-preserved : goal.loop-row-preserved
loop-row-preserved c = (omega arith, cleared_more (let room = c.requires in omega arith) c.loop-row.invariant.1)

pub shape_of-marks : goal.shape_of-marks
shape_of-marks c = c.loop-row.invariant.1.same

pub returns : goal.returns
returns c =
    let end : c.loop-row.row ≡ c.args.count = omega arith in
    rw end at c.loop-row.invariant.1
