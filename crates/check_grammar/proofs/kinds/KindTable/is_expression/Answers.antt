-- `is_expression` makes its definition's two tests in order.
use borrow.Author.Tests.{le-leb, lt-leb}
use Rattle.words.specs.Links.{is_expression}
use borrow.Author.Rules.{rules}
use Rattle.check_grammar.proofs.kinds.KindTable.is_expression.Goals as goal

pub returns-then-sort-ge-EXPRESSION : goal.returns-then-sort-ge-EXPRESSION
unfolding is_expression
returns-then-sort-ge-EXPRESSION c =
    rw (← c.sort_at-sort.ensures, le-leb _ _ c.if-sort-ge-EXPRESSION.true)

pub returns : goal.returns
unfolding is_expression
returns c =
    rw (← c.sort_at-sort.ensures, lt-leb _ _ c.if-sort-ge-EXPRESSION.false)
