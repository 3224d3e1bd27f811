-- `is_block` makes its definition's tests in order.
use borrow.Author.Tests.{eq-eqb, ne_eqb}
use Rattle.check_kernel_statements.specs.Statements.{is_block}
use borrow.Author.Rules.{rules}
use Rattle.check_kernel_statements.proofs.is_block.Goals as goal

pub returns-then-row-eq0 : goal.returns-then-row-eq0
unfolding is_block
returns-then-row-eq0 c = rw (eq-eqb _ _ c.if-row-eq0.true)

pub returns : goal.returns
unfolding is_block
returns c = rw (ne_eqb _ _ c.if-row-eq0.false, ← c.number_or_zero.ensures)
