-- `is_atom_minus` makes its definition's tests in order.
use borrow.Author.Tests.{eq-eqb, ne_eqb}
use Rattle.check_kernel_statements.specs.Statements.{is_atom_minus}
use borrow.Author.Rules.{rules}
use Rattle.check_kernel_statements.proofs.is_atom_minus.Goals as goal

pub returns-then-number_or_zero-eq4 : goal.returns-then-number_or_zero-eq4
unfolding is_atom_minus
returns-then-number_or_zero-eq4 c = rw (← c.number_or_zero.ensures, eq-eqb _ _ c.if-number_or_zero-eq4.true, ← c.number_or_zero-then-number_or_zero-eq4.ensures) c.is_atom.ensures

pub returns : goal.returns
unfolding is_atom_minus
returns c = rw (← c.number_or_zero.ensures, ne_eqb _ _ c.if-number_or_zero-eq4.false)
