use Rattle.flat_sizes.specs.Numbers.{first-neither, first-second, first_some}
use borrow.Author.Rules.{rules}
use Rattle.flat_sizes.proofs.places.first_at.Reads as reads
use Rattle.flat_sizes.proofs.places.first_at.Lts as lts
use Rattle.flat_sizes.proofs.places.first_at.Goals as goal

pub returns-then-no-eq0 : goal.returns-then-no-eq0
returns-then-no-eq0 c =
    first-neither _ _ _ c.if-yes-eq0.true c.if-no-eq0.true

pub returns-then-yes-eq0 : goal.returns-then-yes-eq0
returns-then-yes-eq0 c =
    first-second _ _ _ c.if-yes-eq0.true c.if-no-eq0.false

pub returns : goal.returns
returns c =
    first_some _ _ _ c.if-yes-eq0.false
