-- `locate` hands the array's base and length to the bounds test.
use Rattle.arithmetic.specs.Arithmetic.{element}
use borrow.Author.Rules.{rules}
use mathlib.Core.Path.{ap, ◌∙◌}
use mir.Facts.{to_z-of_z}
use Rattle.flat_steps.proofs.operands.locate.Goals as goal

pub returns : goal.returns
returns c = c.ok_or.ensures.value ∙ c.element.ensures ∙ ap (element _ _) (to_z-of_z c.ranges.index)
