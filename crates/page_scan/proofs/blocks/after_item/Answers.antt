-- `after_item`, by what the line stands among.
use borrow.Author.Rules.{rules}
use Rattle.page_scan.proofs.blocks.after_item.Goals as goal

pub returns-in-Items : goal.returns-in-Items
returns-in-Items c =
    rw c.in-Items.is
