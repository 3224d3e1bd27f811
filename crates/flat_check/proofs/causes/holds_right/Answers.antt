-- `holds_right` makes the test of what the word holds.
use mathlib.Core.Path.{ap, ◌∙◌}
use mir.Facts.{to_z-of_z}
use Rattle.words.specs.Word.{natural}
use borrow.Author.Rules.{rules}
use Rattle.flat_check.proofs.causes.holds_right.Goals as goal

pub returns-in-Unused : goal.returns-in-Unused
returns-in-Unused c =
    rw (c.in-Unused.is, ← (c.natural-number.ensures ∙ ap natural (to_z-of_z c.ranges.word)))

pub returns-else-constant : goal.returns-else-constant
returns-else-constant c =
    rw (c.in-Atom.is, c.if-constant.false, ← (c.natural-number.ensures ∙ ap natural (to_z-of_z c.ranges.word))) c.number_fits.ensures

pub returns-in-Variable : goal.returns-in-Variable
returns-in-Variable c =
    rw (c.in-Variable.is, ← (c.natural-number.ensures ∙ ap natural (to_z-of_z c.ranges.word))) c.number_fits-in-Variable.ensures

pub returns-in-Array : goal.returns-in-Array
returns-in-Array c =
    rw (c.in-Array.is, ← (c.natural-number.ensures ∙ ap natural (to_z-of_z c.ranges.word))) c.number_fits-in-Array.ensures
