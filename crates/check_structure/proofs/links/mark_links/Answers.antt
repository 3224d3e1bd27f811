-- `mark_links` takes the rows in order. The invariant: the links of the rows passed are marked.
use mathlib.Core.Path.{◌≡◌, refl, ◌∙◌}
use Prim.Native.Nat.{◌+◌, ◌*◌, ◌≤◌, ◌-◌}
use native.Mathlib.Omega.{arith}
use lib.ListN.{length}
use borrow.Author.Rules.{rules}
use Rattle.words.specs.Table.{row_count}
use Rattle.check_structure.specs.Passes.{Marked}
use Rattle.check_structure.proofs.Marks.{marked_next}
use Rattle.check_structure.proofs.links.mark_links.Goals as goal

pub loop-row-init : goal.loop-row-init
loop-row-init c =
    (omega arith, refl, refl, c.requires.1)

pub mark_row-requires : goal.mark_row-requires
mark_row-requires c =
    (omega arith, search rules)

pub loop-row-preserved : goal.loop-row-preserved
loop-row-preserved c =
    (omega arith, refl, c.mark_row.ensures.0 ∙ c.loop-row.invariant.2, marked_next _ _ _ c.mark_row.ensures.1)

pub shape_of-marks : goal.shape_of-marks
shape_of-marks c = c.loop-row.invariant.2

pub returns : goal.returns
returns c =
    let end : 6 * c.loop-row.row ≡ length c.args.rows.now = omega arith in
    rw end at c.loop-row.invariant.3
