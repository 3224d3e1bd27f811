-- `put_chosen` writes a chosen row's words, and no word of another.
use Rattle.std.proofs.Common.{refl}
use Rattle.words.specs.OverLaws.{over_none}
use Rattle.join_rows.proofs.placed.Placed.put_chosen.Goals as goal

pub put_words-requires : goal.put_words-requires
put_words-requires c = (c.requires.0, rw c.if-chosen.true at c.requires.1)

pub returns-then-chosen : goal.returns-then-chosen
returns-then-chosen c = rw c.if-chosen.true (c.put_words.ensures, refl)

pub returns : goal.returns
returns c = rw c.if-chosen.false (over_none _, refl)
