-- `natural` casts a word that is not negative.
use Rattle.words.proofs.Signed.{natural-negative, natural-cast}
use Rattle.words.proofs.table.natural.Goals as goal

pub returns-then-word-lt0 : goal.returns-then-word-lt0
returns-then-word-lt0 c = let s = c.before in natural-negative s.ranges.word c.if-word-lt0.true

pub overflow_cast-result : goal.overflow_cast-result
overflow_cast-result c = let s = c.before in (natural-cast s.ranges.word c.if-word-lt0.false).fits

pub returns : goal.returns
returns c = let s = c.before in (natural-cast s.ranges.word c.if-word-lt0.false).is
