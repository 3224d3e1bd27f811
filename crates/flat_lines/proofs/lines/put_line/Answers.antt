-- `put_line`: five words stored one after the other.
use mathlib.Core.Path.{◌≡◌, refl}
use Prim.Native.Nat.{◌*◌}
use native.Mathlib.Omega.{arith}
use lib.ListN.{length-set}
use mir.Syntax.{w32}
use mir.Facts.{to_z-of_z, to_z_pos}
use Rattle.flat_lines.specs.Stored.{five-stored}
use borrow.Author.Rules.{rules}
use Rattle.flat_lines.proofs.lines.put_line.Reads as reads
use Rattle.flat_lines.proofs.lines.put_line.Lts as lts
use Rattle.flat_lines.proofs.lines.put_line.Goals as goal

pub bounds-out-at-2 : goal.bounds-out-at-2
bounds-out-at-2 c =
    simp length-set (omega arith)

pub bounds-out-at-3 : goal.bounds-out-at-3
bounds-out-at-3 c =
    simp length-set (omega arith)

pub bounds-out-at-4 : goal.bounds-out-at-4
bounds-out-at-4 c =
    simp length-set (omega arith)

pub bounds-out-at-5 : goal.bounds-out-at-5
bounds-out-at-5 c =
    simp length-set (omega arith)

pub returns : goal.returns
returns c =
    five-stored c.args.out.now (5 * c.args.line) _ _ _ _ _ _ _ _ _ _ (to_z_pos w32 {n = c.args.operation} (omega (arith, c.requires.1))) (to_z_pos w32 {n = c.args.target} (omega (arith, c.requires.2))) (to_z-of_z {w = w32} c.ranges.left) (to_z-of_z {w = w32} c.ranges.right) (to_z-of_z {w = w32} c.ranges.distance)
