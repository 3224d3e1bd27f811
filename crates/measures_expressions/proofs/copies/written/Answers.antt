-- Whether a set has a variable, as 1 or 0.
use mathlib.Core.Path.{sym, ap, ◌∙◌}
use mathlib.Core.Bool.{Bool}
use native.Mathlib.Omega.{arith}
use Rattle.words.specs.Word.{pick}
use Rattle.measures_expressions.proofs.copies.written.Goals as goal

pub returns-then-has : goal.returns-then-has
returns-then-has c = (ap (λ (b : Bool). pick b 1 0) (sym c.if-has.true ∙ c.has.ensures), omega arith)

pub returns : goal.returns
returns c = (ap (λ (b : Bool). pick b 1 0) (sym c.if-has.false ∙ c.has.ensures), omega arith)
