-- `is_of_function` makes its definition's tests in order.
use borrow.Author.Tests.{eq-eqb, ne_eqb}
use Rattle.check_kernel_statements.specs.Statements.{is_of_function}
use borrow.Author.Rules.{rules}
use Rattle.check_kernel_statements.proofs.is_of_function.Goals as goal

pub returns-then-number_or_zero-eq59 : goal.returns-then-number_or_zero-eq59
unfolding is_of_function
returns-then-number_or_zero-eq59 c = rw (← c.number_or_zero.ensures, eq-eqb _ _ c.if-number_or_zero-eq59.true)

pub returns-then-is_kernel_return : goal.returns-then-is_kernel_return
unfolding is_of_function
returns-then-is_kernel_return c = rw (← c.number_or_zero.ensures, ne_eqb _ _ c.if-number_or_zero-eq59.false, ← c.is_kernel_return.ensures, c.if-is_kernel_return.true)

pub returns : goal.returns
unfolding is_of_function
returns c = rw (← c.number_or_zero.ensures, ne_eqb _ _ c.if-number_or_zero-eq59.false, ← c.is_kernel_return.ensures, c.if-is_kernel_return.false) c.is_kernel_parameter.ensures
