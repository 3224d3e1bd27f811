-- `mark` raises the mark of a row that has one.
use Rattle.check_structure.proofs.Marks.{mark-low, mark-high, mark-out}
use borrow.Author.Rules.{rules}
use Rattle.check_structure.proofs.links.mark.Goals as goal

pub returns-then-mark-lt2 : goal.returns-then-mark-lt2
returns-then-mark-lt2 c =
    mark-low _ _ c.if-mark-lt2.true

pub returns-else-mark-lt2 : goal.returns-else-mark-lt2
returns-else-mark-lt2 c =
    mark-high _ _ c.if-mark-lt2.false

pub returns-else-row-marks : goal.returns-else-row-marks
returns-else-row-marks c =
    mark-out _ _ c.if-row-marks.false
