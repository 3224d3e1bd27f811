-- `is_atom_element` makes its definition's tests in order.
use borrow.Author.Tests.{eq-eqb, ne_eqb}
use Rattle.check_kernel_statements.specs.Statements.{is_atom_element}
use borrow.Author.Rules.{rules}
use Rattle.check_kernel_statements.proofs.is_atom_element.Goals as goal

pub returns-then-number_or_zero-eq3 : goal.returns-then-number_or_zero-eq3
unfolding is_atom_element
returns-then-number_or_zero-eq3 c = rw (← c.number_or_zero.ensures, eq-eqb _ _ c.if-number_or_zero-eq3.true, ← c.number_or_zero-then-number_or_zero-eq3.ensures) c.is_atom.ensures

pub returns : goal.returns
unfolding is_atom_element
returns c = rw (← c.number_or_zero.ensures, ne_eqb _ _ c.if-number_or_zero-eq3.false)
