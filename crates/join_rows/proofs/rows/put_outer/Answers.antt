-- `put_outer` writes the six words of a block.
use mathlib.Core.Path.{◌∙◌, ap}
use mathlib.Core.List.{[], ◌∷◌}
use native.Mathlib.Omega.{arith}
use lib.IntN.{ℤ, pos}
use mir.Syntax.{w32}
use mir.Facts.{to_z_pos}
use Rattle.words.specs.Over.{over}
use Rattle.join.specs.Join.{outer_block}
use Rattle.join_rows.proofs.rows.put_outer.Goals as goal

pub returns : goal.returns
unfolding outer_block
returns c =
    c.put.ensures ∙ ap (λ (w : ℤ). over (pos 42 ∷ w ∷ pos 0 ∷ pos 0 ∷ pos 0 ∷ pos 0 ∷ []) c.args.out.now) (to_z_pos w32 {n = c.args.item} (omega (arith, c.requires.0)))
