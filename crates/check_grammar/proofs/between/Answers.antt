-- `between` makes its definition's two tests in order.
use borrow.Author.Tests.{le-leb, lt-leb}
use Rattle.check_grammar.proofs.between.Goals as goal

pub returns-then-least-number : goal.returns-then-least-number
returns-then-least-number c =
    rw (le-leb _ _ c.if-least-number.true)

pub returns : goal.returns
returns c =
    rw (lt-leb _ _ c.if-least-number.false)
