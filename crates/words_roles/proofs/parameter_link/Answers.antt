-- `parameter_link` makes its definition's tests in order.
use borrow.Author.Tests.{eq-eqb, ne_eqb}
use Rattle.words_roles.specs.Passes.{parameter_link}
use borrow.Author.Rules.{rules}
use Rattle.words_roles.proofs.parameter_link.Goals as goal

pub returns-then-is_definition : goal.returns-then-is_definition
unfolding parameter_link
returns-then-is_definition c = rw (← c.is_definition.ensures, c.if-is_definition.true) c.number_at.ensures

pub returns-then-mark-eq1 : goal.returns-then-mark-eq1
unfolding parameter_link
returns-then-mark-eq1 c = rw (← c.is_definition.ensures, c.if-is_definition.false, eq-eqb _ _ c.if-mark-eq1.true) c.number_at-then-mark-eq1.ensures

pub returns : goal.returns
unfolding parameter_link
returns c = rw (← c.is_definition.ensures, c.if-is_definition.false, ne_eqb _ _ c.if-mark-eq1.false)
