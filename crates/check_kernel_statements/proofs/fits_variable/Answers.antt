-- `fits_variable` makes its definition's tests in order.
use Rattle.check_kernel_statements.specs.Statements.{fits_variable}
use borrow.Author.Rules.{rules}
use Rattle.check_kernel_statements.proofs.fits_variable.Goals as goal

pub returns-then-is_atom : goal.returns-then-is_atom
unfolding fits_variable
returns-then-is_atom c = rw (← c.is_atom.ensures, c.if-is_atom.true)

pub returns-then-is_atom_minus : goal.returns-then-is_atom_minus
unfolding fits_variable
returns-then-is_atom_minus c = rw (← c.is_atom.ensures, c.if-is_atom.false, ← c.is_atom_minus.ensures, c.if-is_atom_minus.true)

pub returns-then-is_atom_operation : goal.returns-then-is_atom_operation
unfolding fits_variable
returns-then-is_atom_operation c = rw (← c.is_atom.ensures, c.if-is_atom.false, ← c.is_atom_minus.ensures, c.if-is_atom_minus.false, ← c.is_atom_operation.ensures, c.if-is_atom_operation.true)

pub returns-then-is_atom_element : goal.returns-then-is_atom_element
unfolding fits_variable
returns-then-is_atom_element c = rw (← c.is_atom.ensures, c.if-is_atom.false, ← c.is_atom_minus.ensures, c.if-is_atom_minus.false, ← c.is_atom_operation.ensures, c.if-is_atom_operation.false, ← c.is_atom_element.ensures, c.if-is_atom_element.true)

pub returns : goal.returns
unfolding fits_variable
returns c = rw (← c.is_atom.ensures, c.if-is_atom.false, ← c.is_atom_minus.ensures, c.if-is_atom_minus.false, ← c.is_atom_operation.ensures, c.if-is_atom_operation.false, ← c.is_atom_element.ensures, c.if-is_atom_element.false) c.is_atom_call.ensures
