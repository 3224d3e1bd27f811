-- `distance_to`: a jump onward counts from the following line, one back is less than 0.
use mathlib.Core.Path.{◌≡◌, refl, ◌∙◌}
use native.Mathlib.Omega.{arith}
use mir.Syntax.{w32}
use mir.Facts.{to_z_pos, to_z-of_z}
use Prim.Native.Nat.{◌+◌, ◌-◌}
use Rattle.flat_lines.specs.Stored.{distance-onward, distance_back, back_is, back_fits}
use borrow.Author.Rules.{rules}
use Rattle.flat_lines.proofs.lines.distance_to.Reads as reads
use Rattle.flat_lines.proofs.lines.distance_to.Lts as lts
use Rattle.flat_lines.proofs.lines.distance_to.Goals as goal

pub returns-then-line-to : goal.returns-then-line-to
returns-then-line-to c =
    to_z_pos w32 {n = c.args.to - (c.args.line + 1)} (omega (arith, c.requires)) ∙ distance-onward _ _ c.if-line-to.true

pub overflow_sub-result-3 : goal.overflow_sub-result-3
overflow_sub-result-3 c =
    back_fits (c.args.line - c.args.to) (omega (arith, c.requires))

pub returns : goal.returns
returns c =
    to_z-of_z {w = w32} (back_fits (c.args.line - c.args.to) (omega (arith, c.requires))) ∙ back_is (c.args.line - c.args.to) (omega (arith, c.requires)) ∙ distance_back _ _ c.if-line-to.false
