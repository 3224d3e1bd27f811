-- `is_kernel_parameter` makes its definition's tests in order.
use borrow.Author.Tests.{eq-eqb, ne_eqb}
use Rattle.check_kernel_statements.specs.Statements.{is_kernel_parameter}
use borrow.Author.Rules.{rules}
use Rattle.check_kernel_statements.proofs.is_kernel_parameter.Goals as goal

pub returns-then-number_or_zero-eq58 : goal.returns-then-number_or_zero-eq58
unfolding is_kernel_parameter
returns-then-number_or_zero-eq58 c = rw (← c.number_or_zero.ensures, eq-eqb _ _ c.if-number_or_zero-eq58.true, ← c.number_or_zero-then-number_or_zero-eq58.ensures)

pub returns : goal.returns
unfolding is_kernel_parameter
returns c = rw (← c.number_or_zero.ensures, ne_eqb _ _ c.if-number_or_zero-eq58.false)
