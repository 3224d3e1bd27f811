-- `if_outline`: an if without its second block has no outline.
use Rattle.page_printer.specs.CountLaws.{if-split}
use borrow.Author.Rules.{rules}
use Rattle.page_printer.proofs.items.if_outline.Goals as goal

pub returns : goal.returns
returns c =
    if-split _ _ _ c.if-second-eq0.false
