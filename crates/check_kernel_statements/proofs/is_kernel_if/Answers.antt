-- `is_kernel_if` makes its definition's tests in order.
use borrow.Author.Tests.{eq-eqb, ne_eqb}
use Rattle.check_kernel_statements.specs.Statements.{is_kernel_if}
use borrow.Author.Rules.{rules}
use Rattle.check_kernel_statements.proofs.is_kernel_if.Goals as goal

pub returns-then-number_or_zero-ne43 : goal.returns-then-number_or_zero-ne43
unfolding is_kernel_if
returns-then-number_or_zero-ne43 c = rw (← c.number_or_zero.ensures, ne_eqb _ _ c.if-number_or_zero-ne43.true)

pub returns-then-is_block : goal.returns-then-is_block
unfolding is_kernel_if
returns-then-is_block c = rw (← c.number_or_zero.ensures, eq-eqb _ _ c.if-number_or_zero-ne43.false, ← c.number_or_zero-2.ensures, ← c.is_atom.ensures, c.if-is_atom.true, ← c.number_or_zero-then-is_atom.ensures, ← c.is_block.ensures, c.if-is_block.true, ← c.number_or_zero-then-is_block.ensures) c.is_block-then-is_block.ensures

pub returns-then-is_atom : goal.returns-then-is_atom
unfolding is_kernel_if
returns-then-is_atom c = rw (← c.number_or_zero.ensures, eq-eqb _ _ c.if-number_or_zero-ne43.false, ← c.number_or_zero-2.ensures, ← c.is_atom.ensures, c.if-is_atom.true, ← c.number_or_zero-then-is_atom.ensures, ← c.is_block.ensures, c.if-is_block.false)

pub returns : goal.returns
unfolding is_kernel_if
returns c = rw (← c.number_or_zero.ensures, eq-eqb _ _ c.if-number_or_zero-ne43.false, ← c.number_or_zero-2.ensures, ← c.is_atom.ensures, c.if-is_atom.false)
