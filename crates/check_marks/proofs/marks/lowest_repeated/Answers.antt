-- `lowest_repeated` begins with trees of no marks.
use native.Mathlib.Omega.{arith}
use Rattle.check_places.proofs.NoteLaws.{mark-notes}
use Rattle.check_marks.specs.MarkTreeLaws.{holds-marks-start}
use borrow.Author.Rules.{rules}
use Rattle.check_marks.proofs.marks.lowest_repeated.Goals as goal

pub write_roots-requires : goal.write_roots-requires
write_roots-requires c =
    let start = c.before.before in
    (start.requires.0, mark-notes start.requires.2, start.requires.1)

pub lowest_repeated_row-requires : goal.lowest_repeated_row-requires
lowest_repeated_row-requires c =
    let start = c.before.before.before.before.before.before in
    let few = start.requires.1 in
    (start.requires.0, c.write_roots.ensures, holds-marks-start _ _ 4096 (omega arith))
