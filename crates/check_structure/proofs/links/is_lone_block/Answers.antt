-- `is_lone_block` makes its definition's two tests in order.
use borrow.Author.Tests.{eq-eqb, ne_eqb}
use Rattle.check_structure.specs.Links.{lone_block}
use borrow.Author.Rules.{rules}
use Rattle.check_structure.proofs.links.is_lone_block.Goals as goal

pub returns-then-number_at-eq42 : goal.returns-then-number_at-eq42
unfolding lone_block
returns-then-number_at-eq42 c =
    rw (← c.number_at.ensures, eq-eqb _ _ c.if-number_at-eq42.true, ← c.number_at-then-number_at-eq42.ensures)

pub returns : goal.returns
unfolding lone_block
returns c =
    rw (← c.number_at.ensures, ne_eqb _ _ c.if-number_at-eq42.false)
