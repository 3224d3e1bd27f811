-- `lowest_cause` takes the rows in order.
use mathlib.Core.Path.{◌≡◌, refl, ◌∙◌}
use Prim.Native.Nat.{◌/◌}
use native.Mathlib.Omega.{arith}
use lib.ListN.{length}
use borrow.Author.Rules.{rules}
use Rattle.check_structure.specs.Passes.{lowest_cause}
use Rattle.check_structure.specs.CauseLaws.{verdict-more}
use Rattle.check_structure.proofs.causes.MarkedRows.lowest_cause.Goals as goal

pub loop-row-init : goal.loop-row-init
unfolding lowest_cause
loop-row-init c = refl

pub loop-row-preserved : goal.loop-row-preserved
loop-row-preserved c =
    (rw (c.loop-row.invariant, c.row_cause.ensures) at c.lower-found.ensures) ∙ verdict-more _ _

pub returns : goal.returns
returns c =
    let end : c.loop-row.row ≡ length c.args.self.now.rows.now / 6 = omega arith in
    rw end at c.loop-row.invariant
