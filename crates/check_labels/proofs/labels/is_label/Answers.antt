-- `is_label` makes its definition's tests in order.
use borrow.Author.Rules.{rules}
use borrow.Author.Tests.{eq-eqb, ne_eqb}
use Rattle.check_labels.specs.Labels.{is_label}
use borrow.Author.Rules.{rules}
use Rattle.check_labels.proofs.labels.is_label.Goals as goal

pub returns-then-number_or_zero-eq53 : goal.returns-then-number_or_zero-eq53
unfolding is_label
returns-then-number_or_zero-eq53 c = rw (← c.number_or_zero.ensures, eq-eqb _ _ c.if-number_or_zero-eq53.true, ← c.number_or_zero-then-number_or_zero-eq53.ensures)

pub returns : goal.returns
unfolding is_label
returns c = rw (← c.number_or_zero.ensures, ne_eqb _ _ c.if-number_or_zero-eq53.false)
