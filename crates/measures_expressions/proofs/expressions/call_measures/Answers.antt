-- The measures of a call, as the code puts them together.
use mathlib.Core.Path.{◌≡◌, ◌∙◌}
use Prim.Native.Nat.{max}
use native.Mathlib.Omega.{arith}
use Rattle.measures_expressions.proofs.PassedLaws.{call-words}
use Rattle.measures_expressions.proofs.expressions.call_measures.Goals as goal

pub returns : goal.returns
returns c =
    let turned : max c.args.passed.levels 1 ≡ max 1 c.args.passed.levels = omega arith in
    call-words c.args.row c.args.passed c.limited-rows.ensures (c.max-levels.ensures ∙ turned)
