-- `element` tests the number that the index names.
use mathlib.Core.Path.{◌≡◌, ap, ◌∙◌}
use mir.Facts.{to_z-of_z}
use borrow.Author.Tests.{lt-ltb, le-ltb}
use Rattle.words.specs.Word.{natural}
use Rattle.arithmetic.specs.Arithmetic.{element}
use Rattle.arithmetic.proofs.element.Goals as goal
use Rattle.arithmetic.proofs.element.Goals.{After-natural-at}

at-is : (c : After-natural-at) → c.natural-at.result ≡ natural c.args.index
at-is c = c.natural-at.ensures ∙ ap natural (to_z-of_z c.ranges.index)

pub returns-then-at-length : goal.returns-then-at-length
unfolding element
returns-then-at-length c = rw (← at-is (goal.at.returns-then-at-length c).After-natural-at, lt-ltb _ _ c.if-at-length.true)

pub returns : goal.returns
unfolding element
returns c = rw (← at-is (goal.at.returns c).After-natural-at, le-ltb _ _ c.if-at-length.false)
