-- `source_has` makes its definition's two tests in order.
use borrow.Author.Tests.{le-leb, lt-leb}
use Rattle.check_grammar.proofs.source_has.Goals as goal

pub returns-then-forms-ge-SOURCE : goal.returns-then-forms-ge-SOURCE
returns-then-forms-ge-SOURCE c = rw (le-leb _ _ c.if-forms-ge-SOURCE.true)

pub returns : goal.returns
returns c = rw (lt-leb _ _ c.if-forms-ge-SOURCE.false)
