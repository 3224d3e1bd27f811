-- `preview_lines`: the lines of a preview, or of its refusal.
use Prim.Native.Nat.{◌≤◌}
use native.Mathlib.Omega.{arith}
use lib.ListN.{length}
use Rattle.command_preview_lines.specs.Changes.{preview_lines}
use Rattle.command_preview_lines.proofs.preview_lines.Goals as goal

pub told_lines-requires : goal.told_lines-requires
told_lines-requires c = rw c.in-Ok.is at c.requires

pub refused_line-requires : goal.refused_line-requires
refused_line-requires c =
    let room : 48 ≤ length c.args.text.now = rw c.in-Err.is at c.requires in
    omega (arith, room)

pub returns-in-Ok : goal.returns-in-Ok
returns-in-Ok c = rw c.in-Ok.is c.told_lines.ensures

pub returns-in-Err : goal.returns-in-Err
unfolding preview_lines
returns-in-Err c = rw c.in-Err.is c.refused_line.ensures
