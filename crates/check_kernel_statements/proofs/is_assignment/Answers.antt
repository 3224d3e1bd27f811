-- `is_assignment` makes its definition's tests in order.
use borrow.Author.Tests.{eq-eqb, ne_eqb}
use Rattle.check_kernel_statements.specs.Statements.{is_assignment}
use borrow.Author.Rules.{rules}
use Rattle.check_kernel_statements.proofs.is_assignment.Goals as goal

pub returns-then-number_or_zero-ne21 : goal.returns-then-number_or_zero-ne21
unfolding is_assignment
returns-then-number_or_zero-ne21 c = rw (← c.number_or_zero.ensures, ne_eqb _ _ c.if-number_or_zero-ne21.true)

pub returns-then-number_or_zero-eq2 : goal.returns-then-number_or_zero-eq2
unfolding is_assignment
returns-then-number_or_zero-eq2 c = rw (← c.number_or_zero.ensures, eq-eqb _ _ c.if-number_or_zero-ne21.false, ← c.number_or_zero-target.ensures, ← c.number_or_zero-value.ensures, ← c.number_or_zero-2.ensures, eq-eqb _ _ c.if-number_or_zero-eq2.true) c.fits_variable.ensures

pub returns-then-is_atom_element : goal.returns-then-is_atom_element
unfolding is_assignment
returns-then-is_atom_element c = rw (← c.number_or_zero.ensures, eq-eqb _ _ c.if-number_or_zero-ne21.false, ← c.number_or_zero-target.ensures, ← c.number_or_zero-value.ensures, ← c.number_or_zero-2.ensures, ne_eqb _ _ c.if-number_or_zero-eq2.false, ← c.is_atom_element.ensures, c.if-is_atom_element.true) c.is_atom.ensures

pub returns : goal.returns
unfolding is_assignment
returns c = rw (← c.number_or_zero.ensures, eq-eqb _ _ c.if-number_or_zero-ne21.false, ← c.number_or_zero-target.ensures, ← c.number_or_zero-value.ensures, ← c.number_or_zero-2.ensures, ne_eqb _ _ c.if-number_or_zero-eq2.false, ← c.is_atom_element.ensures, c.if-is_atom_element.false)
