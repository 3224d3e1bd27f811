-- `is_atom_operation` makes its definition's tests in order.
use Rattle.check_kernel_statements.specs.Statements.{is_atom_operation}
use borrow.Author.Rules.{rules}
use Rattle.check_kernel_statements.proofs.is_atom_operation.Goals as goal

pub returns-then-is_atom : goal.returns-then-is_atom
unfolding is_atom_operation
returns-then-is_atom c = rw (← c.number_or_zero.ensures, ← c.between.ensures, c.if-between.true, ← c.number_or_zero-then-between.ensures, ← c.is_atom.ensures, c.if-is_atom.true, ← c.number_or_zero-then-is_atom.ensures) c.is_atom-then-is_atom.ensures

pub returns-then-between : goal.returns-then-between
unfolding is_atom_operation
returns-then-between c = rw (← c.number_or_zero.ensures, ← c.between.ensures, c.if-between.true, ← c.number_or_zero-then-between.ensures, ← c.is_atom.ensures, c.if-is_atom.false)

pub returns : goal.returns
unfolding is_atom_operation
returns c = rw (← c.number_or_zero.ensures, ← c.between.ensures, c.if-between.false)
