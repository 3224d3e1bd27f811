-- `is_not_kernel_form` makes its definition's tests in order.
use Rattle.check_kernel_statements.specs.Statements.{not_kernel_form}
use borrow.Author.Rules.{rules}
use Rattle.check_kernel_statements.proofs.is_not_kernel_form.Goals as goal

pub returns-then-is_statement : goal.returns-then-is_statement
unfolding not_kernel_form
returns-then-is_statement c = rw (← c.is_statement.ensures, c.if-is_statement.true, ← c.is_kernel_statement.ensures)

pub returns : goal.returns
unfolding not_kernel_form
returns c = rw (← c.is_statement.ensures, c.if-is_statement.false)
