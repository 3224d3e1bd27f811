-- `mark_at` reads a mark.
use mathlib.Core.Path.{sym}
use lib.ListN.{get_or-eq_default}
use borrow.Author.Rules.{rules}
use Rattle.check_structure.proofs.causes.mark_at.Goals as goal

pub returns : goal.returns
returns c =
    sym (get_or-eq_default c.args.marks.now 0 c.if-row-marks.false)
