-- `is_atom_call` makes its definition's tests in order.
use borrow.Author.Tests.{eq-eqb, ne_eqb}
use Rattle.check_kernel_statements.specs.Statements.{is_atom_call}
use borrow.Author.Rules.{rules}
use Rattle.check_kernel_statements.proofs.is_atom_call.Goals as goal

pub returns-then-number_or_zero-eq31 : goal.returns-then-number_or_zero-eq31
unfolding is_atom_call
returns-then-number_or_zero-eq31 c = rw (← c.number_or_zero.ensures, eq-eqb _ _ c.if-number_or_zero-eq31.true, ← c.number_or_zero-then-number_or_zero-eq31.ensures) c.atom_arguments.ensures

pub returns : goal.returns
unfolding is_atom_call
returns c = rw (← c.number_or_zero.ensures, ne_eqb _ _ c.if-number_or_zero-eq31.false)
