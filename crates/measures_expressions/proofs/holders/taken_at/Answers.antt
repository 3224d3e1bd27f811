-- Whether a value takes a temporary: by what holds it.
use mathlib.Core.Path.{ap}
use Rattle.translation.specs.Translate.{taken}
use Rattle.measures_expressions.proofs.HolderLaws.{held-as}
use Rattle.measures_expressions.proofs.holders.taken_at.Goals as goal

pub returns-in-Number : goal.returns-in-Number
returns-in-Number c =
    ap taken (held-as c.holder_at-holder.ensures c.in-Number.is).is

pub returns-in-Variable : goal.returns-in-Variable
returns-in-Variable c =
    ap taken (held-as c.holder_at-holder.ensures c.in-Variable.is).is

pub returns-in-Temporary : goal.returns-in-Temporary
returns-in-Temporary c =
    ap taken (held-as c.holder_at-holder.ensures c.in-Temporary.is).is
