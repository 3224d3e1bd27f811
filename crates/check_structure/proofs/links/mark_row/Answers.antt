-- `mark_row` takes the fields in order.
use mathlib.Core.Path.{◌≡◌, refl, ap, ◌∙◌}
use native.Mathlib.Omega.{arith}
use lib.ListN.{length}
use borrow.Author.Rules.{rules}
use Rattle.check_structure.proofs.Marks.{length-marked_link, marked-begin, marked-field}
use Rattle.check_structure.proofs.links.mark_row.Goals as goal

pub loop-field-init : goal.loop-field-init
loop-field-init c = (refl, marked-begin _ _ _ c.requires.1)

pub loop-field-preserved : goal.loop-field-preserved
loop-field-preserved c =
    (ap length c.mark_link.ensures ∙ length-marked_link _ _ ∙ c.loop-field.invariant.0, marked-field _ _ _ _ _ _ (omega arith) c.loop-field.invariant.1 c.link.ensures c.mark_link.ensures)

pub shape_of-marks : goal.shape_of-marks
shape_of-marks c = c.loop-field.invariant.0

pub returns : goal.returns
returns c =
    let end : c.loop-field.field ≡ 6 = omega arith in
    (c.loop-field.invariant.0, rw end at c.loop-field.invariant.1)
