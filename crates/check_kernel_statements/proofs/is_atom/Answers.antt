-- `is_atom` makes its definition's tests in order.
use Rattle.check_kernel_statements.specs.Statements.{is_atom}
use borrow.Author.Rules.{rules}
use Rattle.check_kernel_statements.proofs.is_atom.Goals as goal

pub returns : goal.returns
unfolding is_atom
returns c = rw (← c.number_or_zero.ensures) c.between.ensures
