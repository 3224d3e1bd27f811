-- `row_cause` takes the fields in order.
use mathlib.Core.Path.{◌≡◌, refl, ◌∙◌}
use native.Mathlib.Omega.{arith}
use borrow.Author.Rules.{rules}
use Rattle.check_structure.specs.Passes.{least_cause, row_cause}
use Rattle.check_structure.specs.CauseLaws.{named-least}
use Rattle.check_structure.proofs.causes.MarkedRows.row_cause.Goals as goal

pub loop-field-init : goal.loop-field-init
unfolding least_cause
loop-field-init c = refl

pub loop-field-preserved : goal.loop-field-preserved
loop-field-preserved c =
    (rw (c.loop-field.invariant, c.field_cause.ensures) at c.first_of-cause.ensures) ∙ named-least _ _

pub returns : goal.returns
unfolding row_cause
returns c =
    let end : c.loop-field.field ≡ 6 = omega arith in
    rw end at c.loop-field.invariant
