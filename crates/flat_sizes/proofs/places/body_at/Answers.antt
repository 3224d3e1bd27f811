use Rattle.flat_sizes.specs.Numbers.{body-endless, body-tested}
use borrow.Author.Rules.{rules}
use Rattle.flat_sizes.proofs.places.body_at.Reads as reads
use Rattle.flat_sizes.proofs.places.body_at.Lts as lts
use Rattle.flat_sizes.proofs.places.body_at.Goals as goal

pub returns-then-endless : goal.returns-then-endless
returns-then-endless c =
    body-endless _ _ c.if-endless.true

pub returns : goal.returns
returns c =
    body-tested _ _ c.if-endless.false
