use Rattle.flat_sizes.specs.Numbers.{second-neither, second-only, second_none, second-both}
use borrow.Author.Rules.{rules}
use Rattle.flat_sizes.proofs.places.second_at.Reads as reads
use Rattle.flat_sizes.proofs.places.second_at.Lts as lts
use Rattle.flat_sizes.proofs.places.second_at.Goals as goal

pub returns-then-no-eq0 : goal.returns-then-no-eq0
returns-then-no-eq0 c =
    second-neither _ _ _ c.if-yes-eq0.true c.if-no-eq0.true

pub returns-then-yes-eq0 : goal.returns-then-yes-eq0
returns-then-yes-eq0 c =
    second-only _ _ _ c.if-yes-eq0.true c.if-no-eq0.false

pub returns-then-no-eq0-2 : goal.returns-then-no-eq0-2
returns-then-no-eq0-2 c =
    second_none _ _ _ c.if-yes-eq0.false c.if-no-eq0-2.true

pub returns : goal.returns
returns c =
    second-both _ _ _ c.if-yes-eq0.false c.if-no-eq0-2.false
