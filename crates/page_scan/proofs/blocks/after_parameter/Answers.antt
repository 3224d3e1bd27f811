-- `after_parameter`, by what the line stands among.
use borrow.Author.Rules.{rules}
use Rattle.page_scan.proofs.blocks.after_parameter.Goals as goal

pub returns-in-Parameters : goal.returns-in-Parameters
returns-in-Parameters c =
    rw c.in-Parameters.is
