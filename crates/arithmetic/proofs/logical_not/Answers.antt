-- `logical_not` is the bit of the other truth.
use mathlib.Core.Path.{ap, ◌∙◌}
use mathlib.Core.Bool.{not}
use mir.Facts.{to_z-of_z}
use Rattle.arithmetic.specs.Arithmetic.{bit, is_true, logical_not}
use Rattle.arithmetic.proofs.Results.{bit-again}
use Rattle.arithmetic.proofs.logical_not.Goals as goal

pub returns : goal.returns
unfolding logical_not
returns c = bit-again _ c.bit.ensures ∙ ap (λ b. bit (not b)) (c.is_true.ensures ∙ ap is_true (to_z-of_z c.ranges.value))
