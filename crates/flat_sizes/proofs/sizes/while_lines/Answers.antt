use Rattle.flat_sizes.specs.Numbers.{lines-endless, lines-tested}
use borrow.Author.Rules.{rules}
use Rattle.flat_sizes.proofs.sizes.while_lines.Reads as reads
use Rattle.flat_sizes.proofs.sizes.while_lines.Lts as lts
use Rattle.flat_sizes.proofs.sizes.while_lines.Goals as goal

pub returns-then-endless : goal.returns-then-endless
returns-then-endless c =
    lines-endless _ _ c.if-endless.true

pub returns : goal.returns
returns c =
    lines-tested _ _ c.if-endless.false
