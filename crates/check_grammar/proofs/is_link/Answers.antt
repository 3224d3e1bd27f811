-- `is_link` makes its definition's two tests in order.
use borrow.Author.Tests.{le-leb, lt-leb}
use Rattle.words.specs.Kinds.{is_link}
use Rattle.check_grammar.proofs.is_link.Goals as goal

pub returns-then-sort-ge-OPERAND : goal.returns-then-sort-ge-OPERAND
unfolding is_link
returns-then-sort-ge-OPERAND c =
    rw (le-leb _ _ c.if-sort-ge-OPERAND.true)

pub returns : goal.returns
unfolding is_link
returns c =
    rw (lt-leb _ _ c.if-sort-ge-OPERAND.false)
