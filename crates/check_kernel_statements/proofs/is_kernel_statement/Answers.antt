-- `is_kernel_statement` makes its definition's tests in order.
use borrow.Author.Tests.{eq-eqb, ne_eqb}
use Rattle.check_kernel_statements.specs.Statements.{is_kernel_statement}
use borrow.Author.Rules.{rules}
use Rattle.check_kernel_statements.proofs.is_kernel_statement.Goals as goal

pub returns-then-kind-eq40 : goal.returns-then-kind-eq40
unfolding is_kernel_statement
returns-then-kind-eq40 c = rw (← c.number_or_zero-kind.ensures, eq-eqb _ _ c.if-kind-eq40.true)

pub returns-then-kind-eq42 : goal.returns-then-kind-eq42
unfolding is_kernel_statement
returns-then-kind-eq42 c = rw (← c.number_or_zero-kind.ensures, ne_eqb _ _ c.if-kind-eq40.false, eq-eqb _ _ c.if-kind-eq42.true)

pub returns-then-is_kernel_if : goal.returns-then-is_kernel_if
unfolding is_kernel_statement
returns-then-is_kernel_if c = rw (← c.number_or_zero-kind.ensures, ne_eqb _ _ c.if-kind-eq40.false, ne_eqb _ _ c.if-kind-eq42.false, ← c.is_kernel_if.ensures, c.if-is_kernel_if.true)

pub returns-then-is_kernel_while : goal.returns-then-is_kernel_while
unfolding is_kernel_statement
returns-then-is_kernel_while c = rw (← c.number_or_zero-kind.ensures, ne_eqb _ _ c.if-kind-eq40.false, ne_eqb _ _ c.if-kind-eq42.false, ← c.is_kernel_if.ensures, c.if-is_kernel_if.false, ← c.is_kernel_while.ensures, c.if-is_kernel_while.true)

pub returns-then-kind-eq52 : goal.returns-then-kind-eq52
unfolding is_kernel_statement
returns-then-kind-eq52 c = rw (← c.number_or_zero-kind.ensures, ne_eqb _ _ c.if-kind-eq40.false, ne_eqb _ _ c.if-kind-eq42.false, ← c.is_kernel_if.ensures, c.if-is_kernel_if.false, ← c.is_kernel_while.ensures, c.if-is_kernel_while.false, eq-eqb _ _ c.if-kind-eq52.true)

pub returns-then-kind-eq53 : goal.returns-then-kind-eq53
unfolding is_kernel_statement
returns-then-kind-eq53 c = rw (← c.number_or_zero-kind.ensures, ne_eqb _ _ c.if-kind-eq40.false, ne_eqb _ _ c.if-kind-eq42.false, ← c.is_kernel_if.ensures, c.if-is_kernel_if.false, ← c.is_kernel_while.ensures, c.if-is_kernel_while.false, ne_eqb _ _ c.if-kind-eq52.false, eq-eqb _ _ c.if-kind-eq53.true)

pub returns-then-kind-eq57 : goal.returns-then-kind-eq57
unfolding is_kernel_statement
returns-then-kind-eq57 c = rw (← c.number_or_zero-kind.ensures, ne_eqb _ _ c.if-kind-eq40.false, ne_eqb _ _ c.if-kind-eq42.false, ← c.is_kernel_if.ensures, c.if-is_kernel_if.false, ← c.is_kernel_while.ensures, c.if-is_kernel_while.false, ne_eqb _ _ c.if-kind-eq52.false, ne_eqb _ _ c.if-kind-eq53.false, eq-eqb _ _ c.if-kind-eq57.true)

pub returns-then-is_kernel_expression : goal.returns-then-is_kernel_expression
unfolding is_kernel_statement
returns-then-is_kernel_expression c = rw (← c.number_or_zero-kind.ensures, ne_eqb _ _ c.if-kind-eq40.false, ne_eqb _ _ c.if-kind-eq42.false, ← c.is_kernel_if.ensures, c.if-is_kernel_if.false, ← c.is_kernel_while.ensures, c.if-is_kernel_while.false, ne_eqb _ _ c.if-kind-eq52.false, ne_eqb _ _ c.if-kind-eq53.false, ne_eqb _ _ c.if-kind-eq57.false, ← c.is_kernel_expression.ensures, c.if-is_kernel_expression.true)

pub returns : goal.returns
unfolding is_kernel_statement
returns c = rw (← c.number_or_zero-kind.ensures, ne_eqb _ _ c.if-kind-eq40.false, ne_eqb _ _ c.if-kind-eq42.false, ← c.is_kernel_if.ensures, c.if-is_kernel_if.false, ← c.is_kernel_while.ensures, c.if-is_kernel_while.false, ne_eqb _ _ c.if-kind-eq52.false, ne_eqb _ _ c.if-kind-eq53.false, ne_eqb _ _ c.if-kind-eq57.false, ← c.is_kernel_expression.ensures, c.if-is_kernel_expression.false) c.is_of_function.ensures
