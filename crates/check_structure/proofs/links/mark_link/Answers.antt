-- `mark_link` makes its definition's test.
use mathlib.Core.Path.{◌≡◌, refl, ap, ◌∙◌}
use lib.ListN.{length}
use borrow.Author.Tests.{eq-eqb, ne_eqb}
use borrow.Author.Rules.{rules}
use Rattle.check_structure.specs.Passes.{marked_link}
use Rattle.check_structure.proofs.Marks.{length_marked}
use Rattle.check_structure.proofs.links.mark_link.Goals as goal

pub shape_of-marks : goal.shape_of-marks
shape_of-marks c = ap length c.mark.ensures ∙ length_marked _ _

pub returns-then-linked-ne0 : goal.returns-then-linked-ne0
unfolding marked_link
returns-then-linked-ne0 c =
    let there : c.args.linked ≡ 0 → ⊥ = search rules in
    rw (ne_eqb _ _ there) c.mark.ensures

pub returns-else-linked-ne0 : goal.returns-else-linked-ne0
unfolding marked_link
returns-else-linked-ne0 c = rw (eq-eqb _ _ c.if-linked-ne0.false) refl
