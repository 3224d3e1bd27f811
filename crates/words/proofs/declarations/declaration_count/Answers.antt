-- `declaration_count` goes over the rows in order. The invariant: the count is that of the declarations passed.
use mathlib.Core.Path.{◌≡◌, refl, ap, ◌∙◌}
use Prim.Native.Nat.{◌/◌}
use native.Mathlib.Omega.{arith}
use native.Mathlib.Numerals.{add-one}
use lib.ListN.{length}
use Rattle.words.specs.Declarations.{declarations_before, declaration_count}
use Rattle.words.specs.StoreLaws.{before-few}
use Rattle.words.proofs.declarations.declaration_count.Goals as goal

pub loop-row-init : goal.loop-row-init
unfolding declarations_before
loop-row-init c =
    (omega arith, refl, refl)

pub counted-count-requires : goal.counted-count-requires
counted-count-requires c =
    (omega arith, omega (arith, c.loop-row.invariant.2, before-few c.args.rows.now c.loop-row.row))

pub loop-row-preserved : goal.loop-row-preserved
unfolding declarations_before
loop-row-preserved c =
    (omega arith, refl, rw (add-one, ← c.loop-row.invariant.2) c.counted-count.ensures)

pub returns : goal.returns
unfolding declaration_count
returns c =
    let e : c.loop-row.row ≡ length c.args.rows.now / 6 = omega arith in c.loop-row.invariant.2 ∙ ap (declarations_before c.args.rows.now) e
