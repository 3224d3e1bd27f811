-- `after_argument`, by what the line stands among.
use borrow.Author.Rules.{rules}
use Rattle.page_scan.proofs.blocks.after_argument.Goals as goal

pub returns-in-Arguments : goal.returns-in-Arguments
returns-in-Arguments c =
    rw c.in-Arguments.is
