-- `root_of` makes its test of the mark before the row.
use borrow.Author.Tests.{eq-eqb, ne_eqb}
use borrow.Author.Rules.{rules}
use Rattle.check_marks.proofs.mark_tree.root_of.Goals as goal

pub returns-then-mark-eq0 : goal.returns-then-mark-eq0
returns-then-mark-eq0 c =
    rw (← c.wide-mark.ensures, eq-eqb _ _ c.if-mark-eq0.true) c.narrow.ensures

pub returns : goal.returns
returns c =
    rw (← c.wide-mark.ensures, ne_eqb _ _ c.if-mark-eq0.false)
