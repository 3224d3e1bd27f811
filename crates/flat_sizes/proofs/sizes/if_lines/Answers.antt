use Rattle.flat_sizes.specs.Numbers.{lines-neither, lines-second, lines-first, lines-both}
use borrow.Author.Rules.{rules}
use Rattle.flat_sizes.proofs.sizes.if_lines.Reads as reads
use Rattle.flat_sizes.proofs.sizes.if_lines.Lts as lts
use Rattle.flat_sizes.proofs.sizes.if_lines.Goals as goal

pub returns-then-no-eq0 : goal.returns-then-no-eq0
returns-then-no-eq0 c =
    lines-neither _ _ c.if-yes-eq0.true c.if-no-eq0.true

pub returns-then-yes-eq0 : goal.returns-then-yes-eq0
returns-then-yes-eq0 c =
    lines-second _ _ c.if-yes-eq0.true c.if-no-eq0.false

pub returns-then-no-eq0-2 : goal.returns-then-no-eq0-2
returns-then-no-eq0-2 c =
    lines-first _ _ c.if-yes-eq0.false c.if-no-eq0-2.true

pub returns : goal.returns
returns c =
    lines-both _ _ c.if-yes-eq0.false c.if-no-eq0-2.false
