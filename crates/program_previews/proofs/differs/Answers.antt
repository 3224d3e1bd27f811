-- `differs` compares words by their bits.
use borrow.Author.Tests.{eq-eqb, ne_eqb}
use Rattle.words.specs.Laws.{same_word-bits}
use Rattle.program_previews.specs.Previews.{difference}
use Rattle.program_previews.proofs.differs.Goals as goal

pub returns-then-word-other : goal.returns-then-word-other
unfolding difference
returns-then-word-other c =
    rw (← same_word-bits c.args.word c.args.other c.ranges.word.sfits c.ranges.other.sfits, eq-eqb _ _ c.if-word-other.true)

pub returns : goal.returns
unfolding difference
returns c =
    rw (← same_word-bits c.args.word c.args.other c.ranges.word.sfits c.ranges.other.sfits, ne_eqb _ _ c.if-word-other.false)
