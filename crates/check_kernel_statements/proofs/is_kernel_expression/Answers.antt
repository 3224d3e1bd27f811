-- `is_kernel_expression` makes its definition's tests in order.
use borrow.Author.Tests.{eq-eqb, ne_eqb}
use Rattle.check_kernel_statements.specs.Statements.{is_kernel_expression}
use borrow.Author.Rules.{rules}
use Rattle.check_kernel_statements.proofs.is_kernel_expression.Goals as goal

pub returns-then-number_or_zero-eq41 : goal.returns-then-number_or_zero-eq41
unfolding is_kernel_expression
returns-then-number_or_zero-eq41 c = rw (← c.number_or_zero.ensures, eq-eqb _ _ c.if-number_or_zero-eq41.true, ← c.number_or_zero-then-number_or_zero-eq41.ensures) c.is_assignment.ensures

pub returns : goal.returns
unfolding is_kernel_expression
returns c = rw (← c.number_or_zero.ensures, ne_eqb _ _ c.if-number_or_zero-eq41.false)
