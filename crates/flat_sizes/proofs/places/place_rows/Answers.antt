use mathlib.Core.Path.{◌≡◌, refl, ◌∙◌}
use Prim.Native.Nat.{◌/◌}
use native.Mathlib.Omega.{arith}
use lib.ListN.{length}
use Rattle.words.specs.Table.{row_count}
use Rattle.flat_sizes.specs.Places.{placed-start, labelled-start, placed_at, labelled-at}
use Rattle.flat_sizes.proofs.places.place_rows.Goals as goal

pub loop-row-init : goal.loop-row-init
loop-row-init c =
    (placed-start c.requires.0 _ c.requires.2 c.requires.3, labelled-start c.requires.0 _ c.requires.4, refl, refl)

pub place_row-requires : goal.place_row-requires
place_row-requires c =
    let rows : length c.args.rows.now / 6 ≡ row_count c.args.rows.now = refl in
    (c.requires.0, c.requires.1, c.loop-row.invariant.0, c.loop-row.invariant.1, omega arith)

pub loop-row-preserved : goal.loop-row-preserved
loop-row-preserved c =
    (c.place_row.ensures.0, c.place_row.ensures.1, c.place_row.auto.lines ∙ c.loop-row.invariant.2, c.place_row.auto.labels ∙ c.loop-row.invariant.3)

pub shape_of-lines : goal.shape_of-lines
shape_of-lines c =
    c.loop-row.invariant.2

pub shape_of-labels : goal.shape_of-labels
shape_of-labels c =
    c.loop-row.invariant.3

pub returns : goal.returns
returns c =
    let rows : length c.args.rows.now / 6 ≡ row_count c.args.rows.now = refl in
    let e : c.loop-row.row ≡ row_count c.args.rows.now = omega arith in
    (placed_at c.requires.0 e c.loop-row.invariant.0, labelled-at c.requires.0 e c.loop-row.invariant.1)
