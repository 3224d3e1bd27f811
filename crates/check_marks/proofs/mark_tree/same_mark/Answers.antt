-- `same_mark` compares the kinds, then the values; words are compared by their bits.
use borrow.Author.Tests.{eq-eqb, ne_eqb}
use Rattle.words.specs.Laws.{same_word-bits}
use Rattle.check_marks.specs.Marks.{same_mark}
use borrow.Author.Rules.{rules}
use Rattle.check_marks.proofs.mark_tree.same_mark.Goals as goal

pub returns-then-number_at : goal.returns-then-number_at
unfolding same_mark
returns-then-number_at c =
    rw (← c.number_at.ensures, ← c.number_at-2.ensures, eq-eqb _ _ c.if-number_at.true, ← c.word_at.ensures, ← c.word_at-then-number_at.ensures)
    (same_word-bits _ _ c.word_at.type_inv c.word_at-then-number_at.type_inv)

pub returns : goal.returns
unfolding same_mark
returns c =
    rw (← c.number_at.ensures, ← c.number_at-2.ensures, ne_eqb _ _ c.if-number_at.false)
