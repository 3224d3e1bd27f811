-- `left_constant` computes its definition.
use mathlib.Core.Path.{refl}
use Rattle.flat.specs.Words.{left_constant}
use Rattle.flat.proofs.lines.left_constant.Goals as goal

pub returns : goal.returns
unfolding left_constant
returns c = refl
