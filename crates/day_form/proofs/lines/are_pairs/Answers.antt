-- `are_pairs` makes the tests of its definition in order.
use borrow.Author.Tests.{lt-ltb, le-ltb}
use Rattle.day_form.specs.Lines.{are_pairs}
use Rattle.day_form.proofs.lines.are_pairs.Goals as goal

pub returns-then-numbers-gt0 : goal.returns-then-numbers-gt0
unfolding are_pairs
returns-then-numbers-gt0 c = rw (lt-ltb _ _ c.if-numbers-gt0.true)

pub returns-else-numbers-gt0 : goal.returns-else-numbers-gt0
unfolding are_pairs
returns-else-numbers-gt0 c = rw (le-ltb _ _ c.if-numbers-gt0.false)
