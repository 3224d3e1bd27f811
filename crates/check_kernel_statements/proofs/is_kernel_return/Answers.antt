-- `is_kernel_return` makes its definition's tests in order.
use borrow.Author.Tests.{eq-eqb, ne_eqb}
use Rattle.check_kernel_statements.specs.Statements.{is_kernel_return}
use borrow.Author.Rules.{rules}
use Rattle.check_kernel_statements.proofs.is_kernel_return.Goals as goal

pub returns-then-atom-eq0 : goal.returns-then-atom-eq0
unfolding is_kernel_return
returns-then-atom-eq0 c = rw (← c.number_or_zero.ensures, eq-eqb _ _ c.if-number_or_zero-eq60.true, ← c.number_or_zero-atom.ensures, eq-eqb _ _ c.if-atom-eq0.true)

pub returns-then-number_or_zero-eq60 : goal.returns-then-number_or_zero-eq60
unfolding is_kernel_return
returns-then-number_or_zero-eq60 c = rw (← c.number_or_zero.ensures, eq-eqb _ _ c.if-number_or_zero-eq60.true, ← c.number_or_zero-atom.ensures, ne_eqb _ _ c.if-atom-eq0.false) c.is_atom.ensures

pub returns : goal.returns
unfolding is_kernel_return
returns c = rw (← c.number_or_zero.ensures, ne_eqb _ _ c.if-number_or_zero-eq60.false)
