-- `operation_kind` computes its definition.
use mathlib.Core.Path.{refl}
use Rattle.flat.specs.Words.{kind_of}
use Rattle.flat.proofs.lines.operation_kind.Goals as goal

pub returns : goal.returns
unfolding kind_of
returns c = refl
