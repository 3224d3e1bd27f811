-- `right_constant` computes its definition.
use mathlib.Core.Path.{refl}
use Rattle.flat.specs.Words.{right_constant}
use Rattle.flat.proofs.lines.right_constant.Goals as goal

pub returns : goal.returns
unfolding right_constant
returns c = refl
