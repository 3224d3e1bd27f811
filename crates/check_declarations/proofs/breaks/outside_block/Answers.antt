-- `outside_block` makes its two tests in order.
use borrow.Author.Tests.{eq-eqb, ne_eqb}
use borrow.Author.Rules.{rules}
use Rattle.check_declarations.proofs.breaks.outside_block.Goals as goal

pub returns-then-number_at-eq0 : goal.returns-then-number_at-eq0
returns-then-number_at-eq0 c = rw (← c.number_at.ensures, eq-eqb _ _ c.if-number_at-eq0.true)

pub returns : goal.returns
returns c = rw (← c.number_at.ensures, ne_eqb _ _ c.if-number_at-eq0.false)
