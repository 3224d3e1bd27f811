-- `is_not_once` makes its definition's tests in order.
use mathlib.Core.Bool.{not}
use mathlib.Core.Path.{ap}
use borrow.Author.Tests.{eq-eqb, ne_eqb}
use Rattle.check_structure.specs.Links.{not_once}
use borrow.Author.Rules.{rules}
use Rattle.check_structure.proofs.links.is_not_once.Goals as goal

pub returns-then-row-eq0 : goal.returns-then-row-eq0
unfolding not_once
returns-then-row-eq0 c =
    rw (eq-eqb _ _ c.if-row-eq0.true) (ap not c.is_lone_block.ensures)

pub returns : goal.returns
unfolding not_once
returns c =
    rw (ne_eqb _ _ c.if-row-eq0.false)
