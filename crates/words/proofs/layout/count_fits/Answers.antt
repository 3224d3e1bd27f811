-- `count_fits` makes the tests of its definition in order.
use native.Mathlib.Omega.{arith}
use borrow.Author.Tests.{le-leb, lt-leb}
use Rattle.words.specs.Layout.{count_fits}
use Rattle.words.specs.Laws.{row_limit-most}
use Rattle.words.proofs.layout.count_fits.Goals as goal

pub returns-then-words-lt6 : goal.returns-then-words-lt6
unfolding count_fits
returns-then-words-lt6 c = rw (lt-leb _ _ c.if-words-lt6.true)

pub overflow_mul-row_limit : goal.overflow_mul-row_limit
overflow_mul-row_limit c = omega (arith, row_limit-most c.args.form, c.row_limit.ensures)

pub returns-then-words-row_limit : goal.returns-then-words-row_limit
unfolding count_fits
returns-then-words-row_limit c = rw (le-leb _ _ c.if-words-lt6.false, ← c.row_limit.ensures, lt-leb _ _ c.if-words-row_limit.true)

pub returns : goal.returns
unfolding count_fits
returns c = rw (le-leb _ _ c.if-words-lt6.false, ← c.row_limit.ensures, le-leb _ _ c.if-words-row_limit.false)
